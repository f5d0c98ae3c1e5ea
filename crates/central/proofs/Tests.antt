-- Tests of the code: a conjunction, and a number by its range. Assumes nothing.
use mathlib.Core.Path.{◌≡◌, sym, ap, ◌∙◌}
use mathlib.Core.Bool.{Bool, true, false, ◌&&◌}
use mathlib.Core.Logic.{◌⊎◌, inl, inr, ⊎_elim}
use Prim.Native.Nat.{ℕ, ◌+◌, ◌≤◌, ◌<◌}
use native.Mathlib.Omega.{arith}
use lib.Dec.{eqb}
use borrow.Author.Tests.{eqb-true, eqb-false}
use Rattle.lists.proofs.Logic.{cases, decided}
use Rattle.event.proofs.CodeLaws.{two}

-- what the code answers at `a && b`: r is the first test's answer, q the second's
pub and-on : {r q a b x : Bool} → r ≡ a → r ≡ true → q ≡ b → (a && b) ≡ x → q ≡ x
and-on {b = b} e h f k = f ∙ ap (λ t. t && b) (sym (sym e ∙ h)) ∙ k

pub and-off : {r a x : Bool} (b : Bool) → r ≡ a → r ≡ false → (a && b) ≡ x → r ≡ x
and-off b e h k = h ∙ ap (λ t. t && b) (sym (sym e ∙ h)) ∙ k

-- one of three neighbours
pub three : (m n : ℕ) → m ≤ n → n ≤ m + 2 → (n ≡ m) ⊎ ((n ≡ m + 1) ⊎ (n ≡ m + 1 + 1))
three m n a b = cases (decided (eqb n m)) (λ e. inl (eqb-true n m e)) (λ e. let q = eqb-false n m e in inr (two (m + 1) n (omega arith) (omega arith)))

-- the code that is left
pub last_code : (n : ℕ) → 1 ≤ n → n ≤ 8 → (n ≡ 7 → ⊥) → (n < 1) ⊎ (6 < n) → n ≡ 8
last_code n low high h = ⊎_elim (λ l. omega arith) (λ l. omega arith)
