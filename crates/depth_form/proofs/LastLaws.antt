-- The last line of a depth, and depths that step as R8 says. Assumes nothing.
use mathlib.Core.Path.{◌≡◌, sym, ◌∙◌, ap}
use mathlib.Core.Bool.{true, ◌&&◌}
use mathlib.Core.List.{List}
use Prim.Native.Nat.{ℕ, zero, suc, ◌≤◌, ◌<◌}
use native.Mathlib.Omega.{arith}
use lib.Dec.{eqb, leb}
use borrow.Author.Tests.{eqb-true, eqb-false, eq-eqb, ne_eqb, leb-true, le-leb}
use Rattle.lists.proofs.Logic.{cases, decided, and_left, and_right, and-join}
use Rattle.plan.specs.Plan.{size}
use Rattle.plan.specs.Check.{at_all}
use Rattle.plan.proofs.CheckLaws.{test_at, test_by}
use Rattle.depth_form.specs.Form.{depth_at, last_at, level_ok}

-- the last line of depth e is u, where u has it and none behind u
pub last-is : (d : List ℕ) (e u v : ℕ) → u < v → depth_at d u ≡ e → ((w : ℕ) → u < w → w < v → depth_at d w ≡ e → ⊥) → last_at d e v ≡ u
unfolding last_at
last-is d e u zero l h n = absurd (omega arith)
last-is d e u (suc v) l h n = cases (decided (eqb u v))
    (λ z. let q = eqb-true u v z in rw (eq-eqb (depth_at d v) e (ap (depth_at d) (sym q) ∙ h)) (sym q))
    (λ z. let q = eqb-false u v z in rw (ne_eqb (depth_at d v) e (n v (omega arith) (omega arith))) (last-is d e u v (omega arith) h (λ w a b. n w a (omega arith))))

-- the levels of d, by points
pub record Levels (d : List ℕ) : Type 0 where
  pub first : depth_at d 0 ≡ 1
  pub later : (v : ℕ) → suc v < size d → (2 ≤ depth_at d (suc v)) × (depth_at d (suc v) ≤ suc (depth_at d v))

pub levels-told : (d : List ℕ) → 0 < size d → at_all level_ok d ≡ true → Levels d
unfolding level_ok
levels-told d some h = record {
  first = eqb-true (depth_at d 0) 1 (test_at level_ok d 0 h some);
  later = λ v l.
      let k : (leb 2 (depth_at d (suc v)) && leb (depth_at d (suc v)) (suc (depth_at d v))) ≡ true =
      rw (ne_eqb (suc v) 0 (λ z. omega arith)) at (test_at level_ok d (suc v) h l) in
      (leb-true 2 (depth_at d (suc v)) (and_left _ _ k), leb-true (depth_at d (suc v)) (suc (depth_at d v)) (and_right (leb 2 (depth_at d (suc v))) _ k));
}

pub levels-by : (d : List ℕ) → Levels d → at_all level_ok d ≡ true
unfolding level_ok
levels-by d s = test_by level_ok d go
  where
    go : (v : ℕ) → v < size d → level_ok d v ≡ true
    go zero l = eq-eqb (depth_at d 0) 1 s.first
    go (suc v) l =
        let k = s.later v l in
        rw (ne_eqb (suc v) 0 (λ z. omega arith))
        (and-join _ _ (le-leb 2 (depth_at d (suc v)) k.0) (le-leb (depth_at d (suc v)) (suc (depth_at d v)) k.1))

-- w is a line before v that has depth e
pub record Found (d : List ℕ) (e v w : ℕ) : Type 0 where
  pub before : w < v
  pub has : depth_at d w ≡ e

module _ (d : List ℕ) (s : Levels d) where
  -- a line has lines of all lower depths before it
  pub last_found : (x e : ℕ) → x < size d → 1 ≤ e → e ≤ depth_at d x → Found d e (suc x) (last_at d e (suc x))
  unfolding last_at
  last_found zero e m l h = rw (eq-eqb (depth_at d 0) e (omega (arith, s.first))) (record { before = omega arith; has = omega (arith, s.first) })
  last_found (suc y) e m l h = cases (decided (eqb (depth_at d (suc y)) e))
      (λ z. rw z (record { before = omega arith; has = eqb-true (depth_at d (suc y)) e z }))
      (λ z. let ne = eqb-false (depth_at d (suc y)) e z in
      let k = s.later y m in
      let r = last_found y e (omega arith) l (omega arith) in
      rw z (record { before = omega (arith, r.before); has = r.has }))
