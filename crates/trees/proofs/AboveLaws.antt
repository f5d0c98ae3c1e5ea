-- The test for the nodes above a node against subtrees, a step up at a time; and the fixed numbering by points: each node's parent is the
-- node before it or above that, which says that subtrees have their numbers together. Assumes nothing.
use mathlib.Core.Path.{◌≡◌, refl, sym, ◌∙◌, subst}
use mathlib.Core.Bool.{Bool, true, false, cond, false≢true}
use mathlib.Core.List.{List}
use mathlib.Core.Logic.{◌↔◌, inr}
use Prim.Native.Nat.{ℕ, zero, suc, ◌≤◌, ◌<◌}
use native.Mathlib.Omega.{arith}
use lib.Dec.{eqb}
use borrow.Author.Tests.{eqb-true, eqb-false, eq-eqb, ne_eqb}
use Rattle.lists.proofs.Logic.{cases, decided, either, same_bool}
use Rattle.plan.specs.Plan.{size, parent}
use Rattle.plan.specs.Check.{Ordered}
use Rattle.plan.specs.Under.{Under, self, up}
use Rattle.plan.proofs.CheckLaws.{test_at, test_by}
use Rattle.plan.proofs.UnderLaws.{under-trans, under-below, ordered-low}
use Rattle.trees.specs.Numbering.{above_within, is_above, follows, in_preorder}
use Rattle.trees.specs.Claim.{Together}

within-under : (p : List ℕ) (f u v : ℕ) → above_within f p u v ≡ true → Under p u v
unfolding above_within
within-under p zero u v h = absurd (false≢true h)
within-under p (suc f) u v h = cases ((either (eqb u v) _).0 h) (λ e. self (eqb-true u v e)) (λ e. go (eqb v 0) refl e (within-under p f u (parent p v)))
  where
    go : (b : Bool) → eqb v 0 ≡ b → cond b false (above_within f p u (parent p v)) ≡ true → (above_within f p u (parent p v) ≡ true → Under p u (parent p v)) → Under p u v
    go true z e k = absurd (false≢true e)
    go false z e k = up {w = v} (omega (arith, eqb-false v 0 z)) (k e)

above-told : (p : List ℕ) (u v : ℕ) → is_above p u v ≡ true → Under p u v
unfolding is_above
above-told p u v h = within-under p (suc v) u v h

-- the fixed numbering, by points
abbrev pub Preorder : List ℕ → Type 0
Preorder p = (v : ℕ) → suc v < size p → Under p (parent p (suc v)) v

follows-suc : (p : List ℕ) (v : ℕ) → follows p (suc v) ≡ is_above p (parent p (suc v)) v
unfolding follows
follows-suc p v = rw (ne_eqb (suc v) 0 (λ e. omega arith))

module _ (p : List ℕ) (ordered : Ordered p) where
  under-within : (f : ℕ) {u v : ℕ} → v < f → v < size p → Under p u v → above_within f p u v ≡ true
  unfolding above_within
  under-within zero l m h = absurd (omega arith)
  under-within (suc f) {u} {v} l m (self e) = rw (eq-eqb u v e)
  under-within (suc f) {u} {v} l m (up z h) =
      let b = ordered.below v z m in
      (either (eqb u v) _).1 (inr (rw (ne_eqb v 0 (λ e. omega arith)) (under-within f (omega arith) (omega arith) h)))

  above-by : (u v : ℕ) → v < size p → Under p u v → is_above p u v ≡ true
  unfolding is_above
  above-by u v m h = under-within (suc v) (omega arith) m h

  -- behind u: the same of the parent
  pub above-up : (u w : ℕ) → w < size p → u < w → is_above p u w ≡ is_above p u (parent p w)
  above-up u w m l =
      let b = ordered.below w (omega arith) m in
      same_bool _ _
      (λ h. above-by u (parent p w) (omega arith) (under-below p u w (λ e. omega arith) (above-told p u w h)).1)
      (λ h. above-by u w m (up (omega arith) (above-told p u (parent p w) h)))

  -- not behind u: only u itself
  pub above-end : (u w : ℕ) → w < size p → w ≤ u → is_above p u w ≡ eqb w u
  above-end u w m l = same_bool _ _
      (λ h. let k = ordered-low p ordered u w m (above-told p u w h) in eq-eqb w u (omega arith))
      (λ h. above-by u w m (self (sym (eqb-true w u h))))

  pub preorder-told : in_preorder p ≡ true → Preorder p
  unfolding in_preorder
  preorder-told h v l = above-told p (parent p (suc v)) v (sym (follows-suc p v) ∙ test_at follows p (suc v) h l)

  pub preorder-by : Preorder p → in_preorder p ≡ true
  unfolding in_preorder follows
  preorder-by h = test_by follows p go
    where
      go : (v : ℕ) → v < size p → follows p v ≡ true
      go zero l = refl
      go (suc v) l = follows-suc p v ∙ above-by (parent p (suc v)) v (omega arith) (h v l)

  -- what stands between a node and one above it is below that one too
  pub together : Preorder p → Together p
  together order u w zero l h m o = subst (Under p u) (let z : 0 ≡ w = omega arith in z) o
  together order u w (suc x) l h m o = cases (decided (eqb w (suc x)))
      (λ z. subst (Under p u) (sym (eqb-true w (suc x) z)) o)
      (λ z. let ne = eqb-false w (suc x) z in
      let b = under-below p u (suc x) (λ e. omega arith) o in
      together order u w x l (omega arith) (omega arith) (under-trans p u (parent p (suc x)) x b.1 (order x m)))

  preorder-together : Together p → Preorder p
  preorder-together h v m =
      let b = ordered.below (suc v) (omega arith) m in
      h (parent p (suc v)) v (suc v) (omega arith) (omega arith) m (up (omega arith) (self refl))

  pub preorder-exact : (in_preorder p ≡ true) ↔ Together p
  preorder-exact = (λ h. together (preorder-told h), λ h. preorder-by (preorder-together h))
