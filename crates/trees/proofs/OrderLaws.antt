-- A plan in the fixed numbering has its own tree lying in it. Assumes nothing.
use mathlib.Core.Path.{◌≡◌, refl, sym, ◌∙◌, subst}
use mathlib.Core.Bool.{true, false}
use mathlib.Core.List.{List}
use mathlib.Core.Logic.{◌⊎◌, inl, inr}
use Prim.Native.Nat.{ℕ, zero, suc, ◌+◌, ◌-◌, ◌≤◌, ◌<◌}
use native.Mathlib.Omega.{arith}
use lib.Dec.{eqb, ltb}
use borrow.Author.Tests.{eqb-true, eqb-false, ltb-true, ltb-false}
use Rattle.lists.proofs.Logic.{cases, decided}
use Rattle.plan.specs.Plan.{size, kind_byte, parent, children}
use Rattle.plan.specs.Check.{Ordered}
use Rattle.plan.specs.Under.{Under, self, up}
use Rattle.plan.proofs.UnderLaws.{under-trans, under-below, ordered-low}
use Rattle.links.specs.Links.{children_from}
use Rattle.links.proofs.LinkLaws.{from_all, from_end, from-yes, from-skip}
use Rattle.trees.specs.Tree.{Forest, none, tree, trees_of, below_within, node_count}
use Rattle.trees.proofs.AboveLaws.{Preorder}
use Rattle.trees.proofs.LaidLaws.{Laid, nothing, first}

-- all of v's children stand behind it
pub from-behind : (p : List ℕ) → Ordered p → (v : ℕ) → v < size p → children p v ≡ children_from p v (suc v)
from-behind p ordered v l =
    from_all p v ∙ from-skip p v (suc v) 1 (suc v) (omega arith) (omega arith) (omega arith)
    (λ c i j e. let b = ordered.below c (omega arith) (omega arith) in omega arith)

-- the trees t, from node n on, are what stands below v from there on
pub record Below (p : List ℕ) (v n : ℕ) (t : Forest) : Type 0 where
  pub laid : Laid p t v n
  pub within : n + node_count t ≤ size p
  pub stays : (x : ℕ) → n ≤ x → x < n + node_count t → v ≤ parent p x
  pub out : (n + node_count t ≡ size p) ⊎ ((0 < v) × Under p (parent p (n + node_count t)) (parent p v))

module _ (p : List ℕ) (ordered : Ordered p) (order : Preorder p) where
  -- once left, a subtree is not entered again
  left-on : (v w : ℕ) → v < w → (Under p v w → ⊥) → (d : ℕ) → d + w < size p → Under p v (d + w) → ⊥
  left-on v w l n zero m o = n (subst (Under p v) (let z : 0 + w ≡ w = omega arith in z) o)
  left-on v w l n (suc d) m o =
      let o' : Under p v (suc (d + w)) = subst (Under p v) (let s : suc d + w ≡ suc (d + w) = omega arith in s) o in
      let b = under-below p v (suc (d + w)) (λ e. omega arith) o' in
      left-on v w l n d (omega arith) (under-trans p v (parent p (suc (d + w))) (d + w) b.1 (order (d + w) (omega arith)))

  left_out_lem : (v w : ℕ) → v < w → w < size p → Under p (parent p w) v → (parent p w ≡ v → ⊥) → (x : ℕ) → w ≤ x → x < size p → parent p x ≡ v → ⊥
  left_out_lem v w l m o n x i j e =
      left-on v w l gone (x - w) (omega arith) (subst (Under p v) (let z : x ≡ x - w + w = omega arith in z) (up {w = x} (omega arith) (self (sym e))))
    where
      gone : Under p v w → ⊥
      gone g =
          let b = under-below p v w (λ e. omega arith) g in
          let c = ordered.below w b.0 m in
          n (let low = ordered-low p ordered v (parent p w) (omega arith) b.1 in let high = ordered-low p ordered (parent p w) v (omega arith) o in omega arith)

  below_none : (v w : ℕ) → w ≤ size p → (w ≡ size p) ⊎ ((0 < v) × Under p (parent p w) (parent p v)) → Below p v w none
  unfolding node_count
  below_none v w l o = record {
    laid = nothing;
    within = omega arith;
    stays = λ x a b. absurd (omega arith);
    out = rw (let z : w + 0 ≡ w = omega arith in z) o;
  }

  below_more : (v w : ℕ) (b t : Forest) → v < w → parent p w ≡ v → Below p w (suc w) b → Below p v (suc w + node_count b) t → Below p v w (tree (kind_byte p w) b t)
  unfolding node_count
  below_more v w b t l e g h =
      let z : w + suc (node_count b + node_count t) ≡ suc w + node_count b + node_count t = omega arith in
      record {
        laid = first refl e g.laid h.laid;
        within = omega (arith, h.within);
        stays = λ x i j. cases (decided (eqb x w))
            (λ y. let q = eqb-true x w y in rw q (omega arith))
            (λ y. let q = eqb-false x w y in cases (decided (ltb x (suc w + node_count b)))
            (λ k. omega (arith, g.stays x (omega arith) (ltb-true x (suc w + node_count b) k)))
            (λ k. h.stays x (ltb-false x (suc w + node_count b) k) (omega arith)));
        out = rw z h.out;
      }

  module _ (f v : ℕ) (deeper : (w : ℕ) → v < w → w < size p → Below p w (suc w) (below_within f p w)) where
    -- the trees of v's children from node w on
    abbrev rest : ℕ → Forest
    rest w = trees_of (kind_byte p) (below_within f p) (children_from p v w)

    rest_end : (w : ℕ) → w ≤ size p → (w ≡ size p) → Below p v w (rest w)
    unfolding trees_of
    rest_end w m e = rw (e, from_end p v) (below_none v (size p) (omega arith) (inl refl))

    rest_from : (g w : ℕ) → size p ≤ g + w → v < w → w ≤ size p → (w ≡ size p) ⊎ (Under p (parent p w) v) → Below p v w (rest w)
    unfolding trees_of
    rest_from zero w i l m o = rest_end w m (omega arith)
    rest_from (suc g) w i l m (inl e) = rest_end w m e
    rest_from (suc g) w i l m (inr o) = cases (decided (ltb w (size p)))
        (λ y. inside (ltb-true w (size p) y) (rest_from g) (decided (eqb (parent p w) v)))
        (λ y. let ge = ltb-false w (size p) y in rest_end w m (omega arith))
      where
        inside : w < size p →
            ((x : ℕ) → size p ≤ g + x → v < x → x ≤ size p → (x ≡ size p) ⊎ (Under p (parent p x) v) → Below p v x (rest x)) →
            (eqb (parent p w) v ≡ true) ⊎ (eqb (parent p w) v ≡ false) → Below p v w (rest w)
        inside lt again (inr z) =
            let ne = eqb-false (parent p w) v z in
            let skip = from-skip p v (size p) w (size p) (omega arith) m (omega arith) (left_out_lem v w l lt o ne) in
            rw (skip, from_end p v) (below_none v w m (inr (under-below p (parent p w) v ne o)))
        inside lt again (inl z) =
            let e = eqb-true (parent p w) v z in
            let b = deeper w l lt in
            let end : ℕ = suc w + node_count (below_within f p w) in
            let skip : children_from p v (w + 1) ≡ children_from p v end =
            from-skip p v end (w + 1) end (omega arith) (omega arith) b.within (λ x i j q. let s = b.stays x (omega arith) j in omega arith) in
            let out : (end ≡ size p) ⊎ (Under p (parent p end) v) = cases b.out inl (λ h. inr (rw e at h.1)) in
            rw (from-yes p v w lt z, skip)
            (below_more v w (below_within f p w) (rest end) l e b (again end (omega arith) (omega arith) b.within out))

  pub below_all : (f v : ℕ) → size p ≤ f + v → v < size p → Below p v (suc v) (below_within f p v)
  unfolding below_within
  below_all zero v i l = absurd (omega arith)
  below_all (suc f) v i l =
      rw (from-behind p ordered v l) (rest_from f v (λ w a b. below_all f w (omega arith) b) (size p) (suc v) (omega arith) (omega arith) l next)
    where
      next : (suc v ≡ size p) ⊎ (Under p (parent p (suc v)) v)
      next = cases (decided (ltb (suc v) (size p)))
          (λ y. inr (order v (ltb-true (suc v) (size p) y)))
          (λ y. inl (omega (arith, ltb-false (suc v) (size p) y)))
