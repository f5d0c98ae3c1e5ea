-- From a plan in the fixed numbering to its depth form, and back. Assumes nothing.
use mathlib.Core.Path.{◌≡◌, sym, ◌∙◌, ap}
use mathlib.Core.List.{List}
use mathlib.Core.Logic.{◌⊎◌, inl, inr}
use Prim.Native.Nat.{ℕ, zero, suc, pred, ◌*◌, ◌≤◌, ◌<◌}
use native.Mathlib.Omega.{arith}
use lib.ListN.{length}
use borrow.Author.Tests.{ne_eqb}
use Rattle.lists.proofs.Logic.{cases}
use Rattle.plan.specs.Plan.{size, kind_byte, parent, depth}
use Rattle.plan.specs.Check.{Ordered, Accepted}
use Rattle.plan.specs.Under.{Under, self, up}
use Rattle.plan.proofs.PlanLaws.{depth-root, depth-child}
use Rattle.plan.proofs.AcceptedLaws.{accepted-ordered}
use Rattle.trees.proofs.AboveLaws.{Preorder, together}
use Rattle.trees.proofs.LaidLaws.{Alike, alike_same}
use Rattle.depth_form.specs.Form.{depth_form, depth_at, line_parent, form_plan}
use Rattle.depth_form.proofs.PairsLaws.{pairs-length, pairs-size, pairs-kind, pairs-parent}
use Rattle.depth_form.proofs.LastLaws.{last-is, Levels}

module _ (p : List ℕ) where
  pub form-length : length (depth_form p) ≡ 2 * size p
  unfolding depth_form
  form-length = pairs-length (kind_byte p) (depth p) (size p)

  pub form-size : size (depth_form p) ≡ size p
  unfolding depth_form
  form-size = pairs-size (kind_byte p) (depth p) (size p)

  pub form-kind : (v : ℕ) → v < size p → kind_byte (depth_form p) v ≡ kind_byte p v
  unfolding depth_form
  form-kind v l = pairs-kind (kind_byte p) (depth p) (size p) v l

  pub form-depth : (v : ℕ) → v < size p → depth_at (depth_form p) v ≡ depth p v
  unfolding depth_at depth_form parent
  form-depth v l = pairs-parent (kind_byte p) (depth p) (size p) v l

module _ (p : List ℕ) (ok : Accepted p) (order : Preorder p) where
  ordered : Ordered p
  ordered = accepted-ordered p ok

  deeper : {u v : ℕ} → v < size p → Under p u v → (u ≡ v) ⊎ (depth p u < depth p v)
  deeper m (self e) = inl e
  deeper {u} {v} m (up l h) =
      let b = ordered.below v l m in
      let e = depth-child p ordered v l m in
      inr (cases (deeper (omega arith) h) (λ q. let a = ap (depth p) q in omega arith) (λ q. omega arith))

  line-parent : (v : ℕ) → suc v < size p → line_parent (depth_form p) (suc v) ≡ parent p (suc v)
  unfolding line_parent
  line-parent v m =
      let b = ordered.below (suc v) (omega arith) m in
      let e = depth-child p ordered (suc v) (omega arith) m in
      let here = form-depth p (suc v) m in
      let there = form-depth p (parent p (suc v)) (omega arith) in
      rw (ne_eqb (suc v) 0 (λ z. omega arith))
      (last-is (depth_form p) (pred (depth_at (depth_form p) (suc v))) (parent p (suc v)) (suc v) b (omega arith)
      (λ w i j z. let f = form-depth p w (omega arith) in
      let o = together p ordered order (parent p (suc v)) w v (omega arith) (omega arith) (omega arith) (order v m) in
      cases (deeper (omega arith) o) (λ q. omega arith) (λ q. omega arith)))

  lines : (v : ℕ) → v < size p → line_parent (depth_form p) v ≡ parent p v
  unfolding line_parent
  lines zero l = sym ok.root
  lines (suc v) l = line-parent v l

  pub form-levels : Levels (depth_form p)
  form-levels = record { first = form-depth p 0 ok.some ∙ depth-root p; later = go }
    where
      some-depth : (x : ℕ) → x < size p → 1 ≤ depth p x
      some-depth zero m = let r = depth-root p in omega arith
      some-depth (suc x) m = let r = depth-child p ordered (suc x) (omega arith) m in omega arith

      go : (v : ℕ) → suc v < size (depth_form p) → (2 ≤ depth_at (depth_form p) (suc v)) × (depth_at (depth_form p) (suc v) ≤ suc (depth_at (depth_form p) v))
      go v m =
          let l : suc v < size p = omega (arith, form-size p) in
          let b = ordered.below (suc v) (omega arith) l in
          let e = depth-child p ordered (suc v) (omega arith) l in
          let a = form-depth p (suc v) l in
          let c = form-depth p v (omega arith) in
          let high : depth p (parent p (suc v)) ≤ depth p v = cases (deeper (omega arith) (order v l)) (λ q. let z = ap (depth p) q in omega arith) (λ q. omega arith) in
          let low = some-depth (parent p (suc v)) (omega arith) in
          (omega arith, omega arith)

  back_at : (v : ℕ) → v < size p → Alike (form_plan (depth_form p)) p v
  unfolding form_plan
  back_at v l = record {
    kinds = pairs-kind (kind_byte (depth_form p)) (line_parent (depth_form p)) (size (depth_form p)) v (omega (arith, form-size p)) ∙ form-kind p v l;
    parents = pairs-parent (kind_byte (depth_form p)) (line_parent (depth_form p)) (size (depth_form p)) v (omega (arith, form-size p)) ∙ lines v l;
  }

  pub form-back : form_plan (depth_form p) ≡ p
  unfolding form_plan
  form-back = alike_same (form_plan (depth_form p)) p (size p)
      (pairs-length (kind_byte (depth_form p)) (line_parent (depth_form p)) (size (depth_form p)) ∙ ap (λ n. 2 * n) (form-size p)) ok.even back_at
