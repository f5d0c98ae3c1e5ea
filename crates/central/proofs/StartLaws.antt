-- Starts in the terms of the code: a place that is reached, by the kind of the parent, and a node that may start. Assumes nothing.
use mathlib.Core.Path.{◌≡◌, sym, ◌∙◌}
use mathlib.Core.Bool.{true, false, not}
use mathlib.Core.List.{List}
use mathlib.Core.Logic.{◌⊎◌, ⊎_elim}
use Prim.Native.Nat.{ℕ, pred, ◌-◌, ◌≤◌}
use native.Mathlib.Omega.{arith}
use lib.Dec.{eqb, ltb}
use lib.ListN.{get_or}
use borrow.Author.Tests.{ne_eqb}
use Rattle.lists.specs.Seq.{all, any, earlier}
use Rattle.lists.proofs.Search.{any-kept, earlier_up}
use Rattle.plan.specs.Plan.{size, kind, parent, children_below, children, above}
use Rattle.plan.specs.declared.kinds.Kind.{Kind}
use Rattle.plan.specs.declared.kinds.Kind.TheVariants.{Serial as serial, And as and, Or as or, Xor as xor, Waiting as waiting, Contingency as contingency, Conditional as conditional}
use Rattle.event.specs.Event.{start}
use Rattle.central.specs.Central.{Answer, is_yes, is_no, reached_by, may_start, allowed_by}
use Rattle.central.specs.Rule.{answer_of, state_of}
use Rattle.central.specs.Scan.{mark_in}
use Rattle.central.proofs.MarkLaws.{at-idle, in-committed, in-failed, in-none}
use Rattle.central.proofs.NoteLaws.{answer-read}

earlier-children : (p : List ℕ) (u v : ℕ) → v ≤ size p → earlier (children p u) v ≡ children_below p v u
unfolding children children_below
earlier-children p u v l =
    let e : pred v ≡ v - 1 = omega arith in
    rw e (earlier_up (λ c. eqb (parent p c) u) v 1 (pred (size p)) (omega arith))

-- v's place among the children of u, by the kind of u
module _ (p marks notes : List ℕ) (u v : ℕ) (l : v ≤ size p) where
  pub reached-serial : serial ≡ kind p u → all (mark_in 8 marks) (children_below p v u) ≡ reached_by (kind p u) (state_of marks notes) u (children p u) v
  unfolding reached_by
  reached-serial e = rw (← e, earlier-children p u v l, in-committed marks notes)

  pub reached-free : {k : Kind} → k ≡ kind p u → (k ≡ and) ⊎ ((k ≡ or) ⊎ ((k ≡ xor) ⊎ (k ≡ waiting))) → true ≡ reached_by (kind p u) (state_of marks notes) u (children p u) v
  unfolding reached_by
  reached-free e h =
      ⊎_elim (λ f. let h : and ≡ kind p u = sym f ∙ e in rw (← h))
      (λ g. ⊎_elim (λ f. let h : or ≡ kind p u = sym f ∙ e in rw (← h))
      (λ i. ⊎_elim (λ f. let h : xor ≡ kind p u = sym f ∙ e in rw (← h)) (λ f. let h : waiting ≡ kind p u = sym f ∙ e in rw (← h)) i) g) h

  pub reached-contingency : contingency ≡ kind p u → all (mark_in 16 marks) (children_below p v u) ≡ reached_by (kind p u) (state_of marks notes) u (children p u) v
  unfolding reached_by
  reached-contingency e = rw (← e, earlier-children p u v l, in-failed marks notes)

  -- the branch of the first child, which has none before it, is yes
  second : any (λ c. ltb c v) (children p u) ≡ not (all (mark_in 0 marks) (children_below p v u))
  unfolding earlier
  second = any-kept (λ c. ltb c v) (children p u) ∙ rw (← earlier-children p u v l, in-none marks)

  module _ (e : conditional ≡ kind p u) {a : Answer} (told : a ≡ answer_of (get_or notes u 0)) where
    pub reached-first : all (mark_in 0 marks) (children_below p v u) ≡ true → is_yes a ≡ reached_by (kind p u) (state_of marks notes) u (children p u) v
    unfolding reached_by
    reached-first f = rw (← e, second, f, answer-read marks notes u, told)

    pub reached-second : all (mark_in 0 marks) (children_below p v u) ≡ false → is_no a ≡ reached_by (kind p u) (state_of marks notes) u (children p u) v
    unfolding reached_by
    reached-second f = rw (← e, second, f, answer-read marks notes u, told)

module _ (p marks notes : List ℕ) (v : ℕ) where
  pub start-not : mark_in 1 marks v ≡ false → false ≡ allowed_by p (state_of marks notes) start v
  unfolding allowed_by
  start-not h = rw (at-idle marks notes v, h)

  module _ (fresh : mark_in 1 marks v ≡ true) where
    pub start-root : v ≡ 0 → true ≡ allowed_by p (state_of marks notes) start v
    unfolding allowed_by may_start
    start-root z = rw (at-idle marks notes v, fresh, z)

    module _ (later : v ≡ 0 → ⊥) where
      pub start-early : mark_in 1 marks (parent p v) ≡ true → false ≡ allowed_by p (state_of marks notes) start v
      unfolding allowed_by may_start
      start-early h = rw (at-idle marks notes v, fresh, ne_eqb v 0 later, at-idle marks notes (parent p v), h)

      pub start-reached : mark_in 1 marks (parent p v) ≡ false →
          reached_by (kind p (parent p v)) (state_of marks notes) (parent p v) (children p (parent p v)) v ≡ allowed_by p (state_of marks notes) start v
      unfolding allowed_by may_start above
      start-reached h = rw (at-idle marks notes v, fresh, ne_eqb v 0 later, at-idle marks notes (parent p v), h)
