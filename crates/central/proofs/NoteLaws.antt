-- Notes by their bytes: what a byte says of answers and picks. Assumes nothing.
use mathlib.Core.Path.{◌≡◌, refl}
use mathlib.Core.Bool.{true, false, ◌&&◌, not}
use mathlib.Core.List.{List}
use Prim.Native.Nat.{ℕ}
use lib.ListN.{get_or}
use Rattle.event.specs.Event.{code_number}
use Rattle.event.specs.Bit.{has_bit}
use Rattle.central.specs.Central.{none, said-yes, said-no, is_yes, is_no}
use Rattle.central.specs.Rule.{answer_of, state_of}
use Rattle.central.specs.Scan.{told_answer, picked_at}
use Rattle.central.specs.declared.Answer.{Answer as Told}
use Rattle.central.specs.declared.Answer.TheVariants.{Nothing, Yes, No}

-- a byte's answer
module _ (b : ℕ) where
  pub answer-yes : has_bit b 5 ≡ true → answer_of b ≡ said-yes
  unfolding answer_of code_number
  answer-yes h = rw h

  pub answer-no : has_bit b 5 ≡ false → has_bit b 6 ≡ true → answer_of b ≡ said-no
  unfolding answer_of code_number
  answer-no h k = rw (h, k)

  pub answer-none : has_bit b 5 ≡ false → has_bit b 6 ≡ false → answer_of b ≡ none
  unfolding answer_of code_number
  answer-none h k = rw (h, k)

-- what the code tells of an answer, where it is another
pub not-yes : (t : Told) → (t ≡ Yes → ⊥) → false ≡ is_yes (told_answer t)
unfolding is_yes
not-yes Nothing n = refl
not-yes Yes n = absurd (n refl)
not-yes No n = refl

pub not-no : (t : Told) → (t ≡ No → ⊥) → false ≡ is_no (told_answer t)
unfolding is_no
not-no Nothing n = refl
not-no Yes n = refl
not-no No n = absurd (n refl)

pub not-nothing : (t : Told) → (t ≡ Nothing → ⊥) → false ≡ (not (is_yes (told_answer t)) && not (is_no (told_answer t)))
unfolding is_yes is_no
not-nothing Nothing n = absurd (n refl)
not-nothing Yes n = refl
not-nothing No n = refl

module _ (marks notes : List ℕ) where
  pub answer-read : (v : ℕ) → (state_of marks notes).answer v ≡ answer_of (get_or notes v 0)
  unfolding state_of
  answer-read v = refl

  pub picked-read : (state_of marks notes).picked ≡ picked_at notes
  unfolding state_of picked_at code_number
  picked-read = refl
