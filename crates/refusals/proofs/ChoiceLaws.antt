-- A call is a choice: by its tests it is refused or goes on. Assumes nothing.
use mathlib.Core.Path.{◌≡◌, refl}
use mathlib.Core.Bool.{Bool, true, false, cond, not}
use Prim.Native.Nat.{ℕ}
use borrow.Author.Tests.{eqb-true, not-false}
use lib.Dec.{eqb}

-- what holds of both holds of the choice
pub choice : {A : Type 0} (P : A → Type 0) (b : Bool) (x y : A) → (b ≡ true → P x) → (b ≡ false → P y) → P (cond b x y)
choice P true x y h k = h refl
choice P false x y h k = k refl

-- where the number is not 0, what is left is as it was
abbrev pub Leaving : {A : Type 0} → (A → ℕ) → (A → Type 0) → A → Type 0
Leaving number left r = (number r ≡ 0 → ⊥) → left r

module _ {A : Type 0} (number : A → ℕ) (left : A → Type 0) where
  -- THE SHAPE OF EVERY CALL: a test's number that is not 0 refuses it and leaves what is lent; else it goes on
  pub refusal : (n : ℕ) (refused more : A) → left refused → (n ≡ 0 → Leaving number left more) → Leaving number left (cond (not (eqb n 0)) refused more)
  refusal n refused more h k = choice (Leaving number left) (not (eqb n 0)) refused more (λ e z. h) (λ e. k (eqb-true n 0 (not-false _ e)))

  -- and has number 0 in the end
  pub done : (r : A) → number r ≡ 0 → Leaving number left r
  done r z n = absurd (n z)

  pub tested : (n : ℕ) (refused r : A) → left refused → (n ≡ 0 → number r ≡ 0) → Leaving number left (cond (not (eqb n 0)) refused r)
  tested n refused r h z = refusal n refused r h (λ e. done r (z e))
