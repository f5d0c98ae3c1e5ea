-- The call's numbers in their order. Assumes nothing.
use mathlib.Core.Path.{◌≡◌}
use mathlib.Core.Bool.{true, false, ◌&&◌, ◌||◌}
use mathlib.Core.List.{List}
use mathlib.Core.Logic.{◌⊎◌, inl, inr}
use Prim.Native.Nat.{ℕ, ◌≤◌, ◌<◌}
use lib.Dec.{eqb}
use lib.ListN.{length}
use native.Mathlib.Omega.{arith}
use borrow.Author.Tests.{eqb-true, eq-eqb, ne_eqb, lt-ltb, le-ltb}
use Rattle.lists.proofs.Logic.{cases, both, either}
use Rattle.plan.specs.Plan.{size}
use Rattle.plan.specs.Check.{Accepted, fit_number}
use Rattle.plan.proofs.Main.{fit-exact}
use Rattle.way.specs.Way.{can_want, way, way_result, found_into, way_into}
use Rattle.way.specs.Claim.{Target}

-- 29: the test and the claim's words
module _ (p : List ℕ) (v m e : ℕ) where
  pub target_told : can_want m e ≡ true → v < size p → Target p v m e
  unfolding can_want
  target_told h l =
      let r = (both (((eqb m 0 || eqb m 3) || eqb m 4) || eqb m 5) (eqb e 3 || eqb e 4)).0 h in
      record { node = omega arith; mark = marks r.0; end = cases ((either (eqb e 3) (eqb e 4)).0 r.1) (λ q. inl (eqb-true e 3 q)) (λ q. inr (eqb-true e 4 q)) }
    where
      marks : (((eqb m 0 || eqb m 3) || eqb m 4) || eqb m 5) ≡ true → (m ≡ 0) ⊎ ((m ≡ 3) ⊎ ((m ≡ 4) ⊎ (m ≡ 5)))
      marks h = cases ((either ((eqb m 0 || eqb m 3) || eqb m 4) (eqb m 5)).0 h)
          (λ h. cases ((either (eqb m 0 || eqb m 3) (eqb m 4)).0 h)
          (λ h. cases ((either (eqb m 0) (eqb m 3)).0 h) (λ q. inl (eqb-true m 0 q)) (λ q. inr (inl (eqb-true m 3 q))))
          (λ q. inr (inr (inl (eqb-true m 4 q)))))
          (λ q. inr (inr (inr (eqb-true m 5 q))))

  pub target-by : Target p v m e → can_want m e ≡ true
  unfolding can_want
  target-by t = cases t.end (λ q. rw q (marks t.mark)) (λ q. rw q (marks t.mark))
    where
      marks : (m ≡ 0) ⊎ ((m ≡ 3) ⊎ ((m ≡ 4) ⊎ (m ≡ 5))) → ((((eqb m 0 || eqb m 3) || eqb m 4) || eqb m 5) && true) ≡ true
      marks h = cases h (λ q. rw q) (λ h. cases h (λ q. rw q) (λ h. cases h (λ q. rw q) (λ q. rw q)))

module _ (p : List ℕ) (v m e : ℕ) (a : List ℕ) where
  pub into-lent : (fit_number p (eqb (length a) (size p)) ≡ 0 → ⊥) → way_into p v m e a ≡ way_result (fit_number p (eqb (length a) (size p))) a
  unfolding way_into
  into-lent h = rw (ne_eqb _ 0 h)

  pub fit-told : fit_number p (eqb (length a) (size p)) ≡ 0 → Accepted p × (length a ≡ size p)
  fit-told h = let r = (fit-exact p (eqb (length a) (size p))).none.0 h in (r.0, eqb-true _ _ r.1)

  module _ (ok : Accepted p) (long : length a ≡ size p) where
    fit_none : fit_number p (eqb (length a) (size p)) ≡ 0
    fit_none = (fit-exact p (eqb (length a) (size p))).none.1 (ok, eq-eqb _ _ long)

    pub into-node : size p ≤ v → way_into p v m e a ≡ way_result 8 a
    unfolding way_into
    into-node l = rw (fit_none, le-ltb v (size p) l)

    pub into-target : v < size p → can_want m e ≡ false → way_into p v m e a ≡ way_result 29 a
    unfolding way_into
    into-target l h = rw (fit_none, lt-ltb v (size p) l, h)

    pub into-found : v < size p → can_want m e ≡ true → way_into p v m e a ≡ found_into (way p v m e) a
    unfolding way_into
    into-found l h = rw (fit_none, lt-ltb v (size p) l, h)
