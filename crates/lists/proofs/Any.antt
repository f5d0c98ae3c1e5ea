-- A loop that looks for one in a list, a turn at a time: the rest says what the whole says. Assumes nothing.
use mathlib.Core.Path.{◌≡◌, ◌∙◌}
use mathlib.Core.Bool.{Bool, true, false, ◌||◌}
use mathlib.Core.List.{List}
use Prim.Native.Nat.{ℕ, ◌+◌, ◌≤◌, ◌<◌}
use native.Mathlib.Numerals.{add-one}
use lib.ListN.{length, drop, get_or, drop_of_length-le}
use lib.Seq.{drop-cons}
use Rattle.lists.specs.Seq.{any}

-- whole is what the search of the whole list says
module _ (whole : Bool) (f : ℕ → Bool) (s : List ℕ) (i : ℕ) (rest : whole ≡ any f (drop i s)) where
  any-turn : i < length s → whole ≡ (f (get_or s i 0) || any f (drop (i + 1) s))
  unfolding any
  any-turn l = rest ∙ rw (add-one, drop-cons s i 0)

  pub any_found : i < length s → f (get_or s i 0) ≡ true → whole ≡ true
  any_found l h = any-turn l ∙ rw h

  pub any-on : i < length s → f (get_or s i 0) ≡ false → whole ≡ any f (drop (i + 1) s)
  any-on l h = any-turn l ∙ rw h

  pub any_out : length s ≤ i → whole ≡ false
  unfolding any
  any_out l = rest ∙ rw (drop_of_length-le s l)
