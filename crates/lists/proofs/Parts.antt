-- The front of a buffer, lent to a function and lent again: z is the buffer, n the part, s what the function left in it. Assumes nothing.
use mathlib.Core.Path.{◌≡◌, sym, ◌∙◌, ap}
use mathlib.Core.List.{List, ◌++◌, append-nil}
use Prim.Native.Nat.{ℕ, ◌≤◌}
use native.Mathlib.Omega.{arith}
use lib.ListN.{length, take, drop, length-append, drop_of_length-le}
use lib.Seq.{length-take-le, take_at, take-length}

pub part_length : (z : List ℕ) (n : ℕ) → n ≤ length z → n ≡ length (take n z)
part_length z n l = sym (length-take-le n z l)

-- s, copied over as many bytes of d
pub copied-over : (s d : List ℕ) → length s ≡ length d → take (length s) s ++ drop (length s) d ≡ s
copied-over s d e = ap (λ z. take (length s) s ++ z) (drop_of_length-le d {i = length s} (omega arith)) ∙ append-nil _ ∙ take-length s

pub record Back (s z : List ℕ) (n : ℕ) : Type 0 where
  pub long : length s ≡ n

module _ {s z : List ℕ} {n : ℕ} (h : Back s z n) where
  pub back_is : take n (s ++ drop n z) ≡ s
  back_is = take_at s (drop n z) n h.long

  pub back-room : n ≤ length (s ++ drop n z)
  back-room = omega (arith, h.long, length-append s (drop n z))

  pub back-length : n ≡ length (take n (s ++ drop n z))
  back-length = sym (ap length back_is ∙ h.long)
