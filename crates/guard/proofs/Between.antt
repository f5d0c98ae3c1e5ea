-- A number between two bounds: its test, and what holds at each number there. Assumes nothing.
use mathlib.Core.Path.{◌≡◌}
use mathlib.Core.Bool.{true, false, ◌&&◌}
use mathlib.Core.Logic.{⊎_elim}
use Prim.Native.Nat.{ℕ, ◌+◌, ◌≤◌}
use native.Mathlib.Omega.{arith}
use borrow.Author.Tests.{eqb-true, eqb-false, leb-true, leb-false, le-leb}
use lib.Dec.{eqb, leb}
use Rattle.lists.proofs.Logic.{cases, decided, and_left, and_right, clash}
use Rattle.event.proofs.CodeLaws.{two}

module _ (low high n : ℕ) where
  pub in_between : (leb low n && leb n high) ≡ true → (low ≤ n) × (n ≤ high)
  in_between e = (leb-true low n (and_left _ _ e), leb-true n high (and_right (leb low n) _ e))

  pub not-between : (leb low n && leb n high) ≡ false → low ≤ n → n ≤ high → ⊥
  not-between e a b = clash (leb low n && leb n high) (rw (le-leb low n a, le-leb n high b)) e

-- f is x at each of them
module _ {A : Type 0} (f : ℕ → A) {x : A} (k : ℕ) where
  pub of_two : (n : ℕ) → n ≤ k → k ≤ n + 1 → x ≡ f n → x ≡ f (n + 1) → x ≡ f k
  of_two n l h a b = ⊎_elim (λ e. rw e a) (λ e. rw e b) (two n k l h)

  pub of_three : (n : ℕ) → n ≤ k → k ≤ n + 2 → x ≡ f n → x ≡ f (n + 1) → x ≡ f (n + 2) → x ≡ f k
  of_three n l h a b c = cases (decided (eqb k n)) (λ e. rw (eqb-true k n e) a)
      (λ e. let q = eqb-false k n e in let s : n + 1 + 1 ≡ n + 2 = omega arith in of_two (n + 1) (omega arith) (omega arith) b (rw s c))

  pub of-five : (n : ℕ) → n ≤ k → k ≤ n + 4 → x ≡ f n → x ≡ f (n + 1) → x ≡ f (n + 2) → x ≡ f (n + 3) → x ≡ f (n + 4) → x ≡ f k
  of-five n l h a b c d e = cases (decided (leb k (n + 1))) (λ q. of_two n l (leb-true k (n + 1) q) a b)
      (λ q. let m = leb-false k (n + 1) q in
      let s : n + 2 + 1 ≡ n + 3 = omega arith in
      let t : n + 2 + 2 ≡ n + 4 = omega arith in
      of_three (n + 2) (omega arith) (omega arith) c (rw s d) (rw t e))
