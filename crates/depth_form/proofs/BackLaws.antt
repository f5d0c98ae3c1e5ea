-- From a depth form to its plan, and back: the plan is in the fixed numbering, and its depths are the form's. Assumes nothing.
use mathlib.Core.Path.{◌≡◌, refl, sym, ◌∙◌, ap}
use mathlib.Core.Bool.{true}
use mathlib.Core.List.{List}
use mathlib.Core.Logic.{◌⊎◌, inl, inr}
use Prim.Native.Nat.{ℕ, zero, suc, pred, ◌*◌, ◌≤◌, ◌<◌}
use native.Mathlib.Omega.{arith}
use lib.Dec.{eqb}
use lib.ListN.{length}
use borrow.Author.Tests.{eqb-false, eq-eqb, ne_eqb, lt-ltb}
use Rattle.lists.proofs.Logic.{cases, decided, same_bool}
use Rattle.plan.specs.Plan.{size, kind_byte, parent, depth}
use Rattle.plan.specs.Check.{Ordered, length_ok, kind_ok, parent_ok, at_all}
use Rattle.plan.specs.Under.{Under, self, up}
use Rattle.plan.proofs.PlanLaws.{depth-root, depth-child}
use Rattle.plan.proofs.UnderLaws.{linear}
use Rattle.plan.proofs.CheckLaws.{Long, test_at, test_by}
use Rattle.trees.specs.Numbering.{in_preorder}
use Rattle.trees.proofs.AboveLaws.{Preorder, preorder-by}
use Rattle.trees.proofs.LaidLaws.{Alike, alike_same}
use Rattle.depth_form.specs.Form.{depth_form, depth_at, last_at, line_parent, form_plan}
use Rattle.depth_form.proofs.PairsLaws.{pairs-length, pairs-size, pairs-kind, pairs-parent}
use Rattle.depth_form.proofs.LastLaws.{Levels, Found, last_found}
use Rattle.depth_form.proofs.ThereLaws.{form-length, form-kind, form-depth}

-- the plan of d, byte by byte
module _ (d : List ℕ) where
  pub plan-size : size (form_plan d) ≡ size d
  unfolding form_plan
  plan-size = pairs-size (kind_byte d) (line_parent d) (size d)

  pub plan-long : length (form_plan d) ≡ 2 * size d
  unfolding form_plan
  plan-long = pairs-length (kind_byte d) (line_parent d) (size d)

  plan-kind : (v : ℕ) → v < size d → kind_byte (form_plan d) v ≡ kind_byte d v
  unfolding form_plan
  plan-kind v l = pairs-kind (kind_byte d) (line_parent d) (size d) v l

  plan-root : 0 < size d → parent (form_plan d) 0 ≡ 255
  unfolding form_plan line_parent
  plan-root l = pairs-parent (kind_byte d) (line_parent d) (size d) 0 l

  plan-parent : (v : ℕ) → suc v < size d → parent (form_plan d) (suc v) ≡ last_at d (pred (depth_at d (suc v))) (suc v)
  unfolding form_plan line_parent
  plan-parent v l = pairs-parent (kind_byte d) (line_parent d) (size d) (suc v) l ∙ rw (ne_eqb (suc v) 0 (λ z. omega arith))

  -- 1 and 2 say of the plan what they say of the form
  pub plan-length-ok : length d ≡ 2 * size d → length_ok (form_plan d) ≡ length_ok d
  unfolding length_ok
  plan-length-ok even = rw (plan-long ∙ sym even)

  kind_ok_lem : (v : ℕ) → v < size d → kind_ok (form_plan d) v ≡ kind_ok d v
  unfolding kind_ok
  kind_ok_lem v l = rw (plan-kind v l)

  pub plan-kinds-ok : at_all kind_ok (form_plan d) ≡ at_all kind_ok d
  plan-kinds-ok = same_bool _ _
      (λ h. test_by kind_ok d (λ v l. sym (kind_ok_lem v l) ∙ test_at kind_ok (form_plan d) v h (omega (arith, plan-size))))
      (λ h. test_by kind_ok (form_plan d) (λ v l. let m : v < size d = omega (arith, plan-size) in kind_ok_lem v m ∙ test_at kind_ok d v h m))

module _ (d : List ℕ) (long : Long d) (s : Levels d) where
  -- a line's parent stands before it, one less deep
  parent-found : (v : ℕ) → suc v < size d → Found d (pred (depth_at d (suc v))) (suc v) (parent (form_plan d) (suc v))
  parent-found v l =
      let k = s.later v l in
      rw (plan-parent d v l) (last_found d s v (pred (depth_at d (suc v))) (omega arith) (omega arith) (omega arith))

  parent-line : (v : ℕ) → 0 < v → v < size d → (parent (form_plan d) v < v) × (suc (depth_at d (parent (form_plan d) v)) ≡ depth_at d v)
  parent-line zero l m = absurd (omega arith)
  parent-line (suc v) l m =
      let r = parent-found v m in
      let k = s.later v m in
      (r.before, omega (arith, r.has))

  pub plan-ordered : Ordered (form_plan d)
  plan-ordered = record {
    some = omega (arith, plan-size d, long.some);
    few = omega (arith, plan-size d, long.few);
    below = λ v l m. (parent-line v l (omega (arith, plan-size d))).0;
  }

  rises : {u v : ℕ} → v < size d → Under (form_plan d) u v → (u ≡ v) ⊎ (depth_at d u < depth_at d v)
  rises m (self e) = inl e
  rises {u} {v} m (up l h) =
      let r = parent-line v l m in
      inr (cases (rises (omega arith) h) (λ q. let a = ap (depth_at d) q in omega arith) (λ q. omega arith))

  -- the last line of a lower depth is above a line
  last-above : (x e : ℕ) → x < size d → 1 ≤ e → e ≤ depth_at d x → Under (form_plan d) (last_at d e (suc x)) x
  unfolding last_at
  last-above zero e m l h = rw (eq-eqb (depth_at d 0) e (omega (arith, s.first))) (self refl)
  last-above (suc y) e m l h = cases (decided (eqb (depth_at d (suc y)) e))
      (λ z. rw z (self refl))
      (λ z. let ne = eqb-false (depth_at d (suc y)) e z in
      let k = s.later y m in
      let w = last_found d s y e (omega arith) l (omega arith) in
      let r = parent-line (suc y) (omega arith) m in
      let u : Under (form_plan d) (parent (form_plan d) (suc y)) y = rw (plan-parent d y m) (last-above y (pred (depth_at d (suc y))) (omega arith) (omega arith) (omega arith)) in
      rw z (up {w = suc y} (omega arith) (cases (linear (form_plan d) (last_at d e (suc y)) (parent (form_plan d) (suc y)) y (last-above y e (omega arith) l (omega arith)) u)
      (λ o. o)
      (λ o. cases (rises (omega (arith, w.before)) o) (λ q. self (sym q)) (λ q. absurd (omega (arith, w.has)))))))

  plan-points : Preorder (form_plan d)
  plan-points v l =
      let m : suc v < size d = omega (arith, plan-size d) in
      let k = s.later v m in
      rw (plan-parent d v m) (last-above v (pred (depth_at d (suc v))) (omega arith) (omega arith) (omega arith))

  pub plan-preorder : in_preorder (form_plan d) ≡ true
  plan-preorder = preorder-by (form_plan d) plan-ordered plan-points

  depth-line : (f v : ℕ) → v < f → v < size d → depth (form_plan d) v ≡ depth_at d v
  depth-line zero v i m = absurd (omega arith)
  depth-line (suc f) zero i m = depth-root (form_plan d) ∙ sym s.first
  depth-line (suc f) (suc v) i m =
      let r = parent-line (suc v) (omega arith) m in
      depth-child (form_plan d) plan-ordered (suc v) (omega arith) (omega (arith, plan-size d))
      ∙ ap suc (depth-line f (parent (form_plan d) (suc v)) (omega arith) (omega arith))
      ∙ r.1

  again-at : (v : ℕ) → v < size d → Alike (depth_form (form_plan d)) d v
  unfolding depth_at parent
  again-at v l =
      let m : v < size (form_plan d) = omega (arith, plan-size d) in
      record {
        kinds = form-kind (form_plan d) v m ∙ plan-kind d v l;
        parents = form-depth (form_plan d) v m ∙ depth-line (suc v) v (omega arith) l;
      }

  pub plan-again : depth_form (form_plan d) ≡ d
  plan-again = alike_same (depth_form (form_plan d)) d (size d) (form-length (form_plan d) ∙ ap (λ n. 2 * n) (plan-size d)) long.even again-at

  -- 3 never fails
  parent-ok : (v : ℕ) → v < size (form_plan d) → parent_ok (form_plan d) v ≡ true
  unfolding parent_ok
  parent-ok zero l = eq-eqb (parent (form_plan d) 0) 255 (plan-root d long.some)
  parent-ok (suc v) l =
      rw (ne_eqb (suc v) 0 (λ z. omega arith))
      (lt-ltb (parent (form_plan d) (suc v)) (suc v) (parent-line (suc v) (omega arith) (omega (arith, plan-size d))).0)

  pub plan-parents-ok : at_all parent_ok (form_plan d) ≡ true
  plan-parents-ok = test_by parent_ok (form_plan d) parent-ok
