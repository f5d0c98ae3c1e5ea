-- Laws of `fit_number`: its tests taken apart. Assumes nothing.
use mathlib.Core.Path.{◌≡◌, refl, sym, ◌∙◌}
use mathlib.Core.Bool.{Bool, true, false, cond, not}
use mathlib.Core.List.{List}
use Prim.Native.Nat.{ℕ, ◌≤◌}
use native.Mathlib.Omega.{arith}
use lib.Dec.{eqb}
use borrow.Author.Tests.{eqb-true, eqb-false, ne_eqb}
use Rattle.lists.proofs.Logic.{cases, decided}
use Rattle.plan.specs.Check.{length_ok, at_all, kind_ok, parent_ok, under_block, count_ok, depth_ok, check_number, fit_number}

module _ (p : List ℕ) where
  -- 1 to 6 come first
  pub fit-plan : (right : Bool) → (check_number p ≡ 0 → ⊥) → fit_number p right ≡ check_number p
  unfolding fit_number
  fit-plan right h = rw (ne_eqb (check_number p) 0 h)

  fit-lengths : (right : Bool) → check_number p ≡ 0 → fit_number p right ≡ cond (not right) 7 0
  unfolding fit_number
  fit-lengths right z = rw z

  -- no number: neither the plan's nor the lengths'
  pub fit_none : (right : Bool) → fit_number p right ≡ 0 → (check_number p ≡ 0) × (right ≡ true)
  fit_none right h = cases (decided (eqb (check_number p) 0))
      (λ e. let z = eqb-true (check_number p) 0 e in (z, lengths right (sym (fit-lengths right z) ∙ h)))
      (λ e. let bad = eqb-false (check_number p) 0 e in absurd (bad (sym (fit-plan right bad) ∙ h)))
    where
      lengths : (b : Bool) → ◌≡◌ {A = ℕ} (cond (not b) 7 0) 0 → b ≡ true
      lengths true z = refl
      lengths false z = absurd (omega arith)

  -- with right lengths it is the check
  pub fit-right : fit_number p true ≡ check_number p
  fit-right = cases (decided (eqb (check_number p) 0))
      (λ e. let z = eqb-true (check_number p) 0 e in fit-lengths true z ∙ sym z)
      (λ e. fit-plan true (eqb-false (check_number p) 0 e))

check-few : (p : List ℕ) → check_number p ≤ 6
unfolding check_number
check-few p = go (length_ok p) (at_all kind_ok p) (at_all parent_ok p) (at_all under_block p) (at_all count_ok p) (at_all depth_ok p)
  where
    go : (a b c d e f : Bool) →
        cond (not a) 1 (cond (not b) 2 (cond (not c) 3 (cond (not d) 4 (cond (not e) 5 (cond (not f) 6 0))))) ≤ 6
    go false b c d e f = omega arith
    go true false c d e f = omega arith
    go true true false d e f = omega arith
    go true true true false e f = omega arith
    go true true true true false f = omega arith
    go true true true true true false = omega arith
    go true true true true true true = omega arith

-- no number above 7
pub fit-few : (p : List ℕ) (right : Bool) → fit_number p right ≤ 7
unfolding fit_number
fit-few p right = go (eqb (check_number p) 0) right
  where
    go : (b d : Bool) → cond (not b) (check_number p) (cond (not d) 7 0) ≤ 7
    go false d = omega (arith, check-few p)
    go true false = omega arith
    go true true = omega arith
