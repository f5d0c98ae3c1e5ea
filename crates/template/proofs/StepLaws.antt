-- The repeated tree without a bound on its levels, where it is the plan's own tree, and that once changes nothing. Assumes nothing.
use mathlib.Core.Path.{◌≡◌, refl, sym, ◌∙◌, ap}
use mathlib.Core.Bool.{cond}
use mathlib.Core.List.{List}
use Prim.Native.Nat.{ℕ, zero, suc, ◌+◌, ◌≤◌, ◌<◌}
use native.Mathlib.Omega.{arith}
use lib.Dec.{eqb}
use borrow.Author.Tests.{eqb-true, eqb-false, eq-eqb, ne_eqb}
use Rattle.lists.proofs.Logic.{cases, decided}
use Rattle.plan.specs.Plan.{size, kind_byte, children}
use Rattle.plan.specs.Check.{Ordered}
use Rattle.plan.specs.Under.{Under, self}
use Rattle.plan.proofs.PlanLaws.{child-of}
use Rattle.plan.proofs.UnderLaws.{under-child}
use Rattle.trees.specs.Tree.{Forest, none, tree, trees_of, trees_below, tree_of}
use Rattle.trees.specs.Numbering.{plan_of, renumbered}
use Rattle.trees.proofs.TreeLaws.{trees-same, trees-step}
use Rattle.template.specs.Repeat.{beside, times, repeated_within, repeated_below, repeated_tree, repeated}

beside_none : (t : Forest) → beside t none ≡ t
unfolding beside
beside_none none = refl
beside_none (tree k b t) = ap (λ s. tree k b s) (beside_none t)

times-one : (t : Forest) → times 1 t ≡ t
unfolding times
times-one t = beside_none t

module _ (p : List ℕ) (ordered : Ordered p) (m : ℕ) where
  module _ (r : ℕ) where
    -- more levels than nodes behind v change nothing
    within_same : (f g v : ℕ) → v < size p → size p ≤ f + v → size p ≤ g + v → repeated_within f p m r v ≡ repeated_within g p m r v
    unfolding repeated_within
    within_same zero g v l i j = absurd (omega arith)
    within_same (suc f) zero v l i j = absurd (omega arith)
    within_same (suc f) (suc g) v l i j = ap (λ t. cond (eqb v m) (times r (trees_below p m)) t)
        (trees-same (kind_byte p) (repeated_within f p m r) (repeated_within g p m r) (children p v)
        (λ c n. let h = child-of p v n in
        let b = ordered.below c h.low h.high in
        within_same f g c h.high (omega (arith, h.of)) (omega (arith, h.of))))

    step : (v : ℕ) → v < size p → repeated_below p m r v ≡ cond (eqb v m) (times r (trees_below p m)) (trees_of (kind_byte p) (repeated_below p m r) (children p v))
    unfolding repeated_below repeated_within
    step v l = within_same (size p) (suc (size p)) v l (omega arith) (omega arith)

    pub step-marked : m < size p → repeated_below p m r m ≡ times r (trees_below p m)
    step-marked l = step m l ∙ rw (eq-eqb m m refl)

    pub step_other : (v : ℕ) → v < size p → (v ≡ m → ⊥) → repeated_below p m r v ≡ trees_of (kind_byte p) (repeated_below p m r) (children p v)
    step_other v l n = step v l ∙ rw (ne_eqb v m n)

    outside-within : (f v : ℕ) → size p ≤ f + v → v < size p → (Under p v m → ⊥) → repeated_below p m r v ≡ trees_below p v
    outside-within zero v i l n = absurd (omega arith)
    outside-within (suc f) v i l n =
        step_other v l (λ e. n (self e))
        ∙ trees-same (kind_byte p) (repeated_below p m r) (trees_below p) (children p v)
        (λ c k. let h = child-of p v k in
        let b = ordered.below c h.low h.high in
        outside-within f c (omega (arith, h.of)) h.high (λ u. n (under-child p v c m k u)))
        ∙ sym (trees-step p ordered v l)

    -- where the marked node is not in v's subtree, all is as it was
    pub outside : (v : ℕ) → v < size p → (Under p v m → ⊥) → repeated_below p m r v ≡ trees_below p v
    outside v l n = outside-within (size p) v (omega arith) l n

  once-within : (f v : ℕ) → size p ≤ f + v → v < size p → repeated_below p m 1 v ≡ trees_below p v
  once-within zero v i l = absurd (omega arith)
  once-within (suc f) v i l = cases (decided (eqb v m))
      (λ z. let e = eqb-true v m z in
      ap (repeated_below p m 1) e ∙ step-marked 1 (rw (← e) l) ∙ times-one (trees_below p m) ∙ ap (trees_below p) (sym e))
      (λ z. step_other 1 v l (eqb-false v m z)
      ∙ trees-same (kind_byte p) (repeated_below p m 1) (trees_below p) (children p v)
      (λ c k. let h = child-of p v k in
      let b = ordered.below c h.low h.high in
      once-within f c (omega (arith, h.of)) h.high)
      ∙ sym (trees-step p ordered v l))

  pub repeat-once : repeated p m 1 ≡ renumbered p
  unfolding repeated repeated_tree renumbered tree_of
  repeat-once = ap (λ b. plan_of (tree (kind_byte p 0) b none)) (once-within (size p) 0 (omega arith) ordered.some)
