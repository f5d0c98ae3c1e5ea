-- Nodes that an accepted pass reaches: they end without a fault, as their mark says. Assumes nothing.
use mathlib.Core.Path.{◌≡◌, refl, sym, ◌∙◌, ap, subst}
use mathlib.Core.Bool.{Bool, true, false, cond, ◌&&◌, not}
use mathlib.Core.List.{List, [], ◌∷◌}
use Prim.Native.Nat.{ℕ, zero, suc, ◌<◌}
use lib.Dec.{eqb}
use lib.ListN.{get_or}
use borrow.Author.Tests.{eqb-true, eqb-false, ne_eqb}
use native.Mathlib.Omega.{arith}
use Rattle.lists.specs.Member.{In}
use Rattle.lists.proofs.Logic.{cases, decided}
use Rattle.plan.specs.Plan.{is_kind, size, kind, parent, children}
use Rattle.plan.specs.declared.kinds.Kind.{Kind}
use Rattle.plan.specs.declared.kinds.Kind.TheVariants.{Xor as xor}
use Rattle.plan.specs.Check.{Accepted}
use Rattle.plan.specs.Under.{Under, self, up}
use Rattle.plan.proofs.AcceptedLaws.{parent-child}
use Rattle.pass.specs.Pass.{Outcome, works, breaks, Tally, goes, nothing, good_mark, child_mark, number_of, root_mark, pass}
use Rattle.pass_nodes.specs.Nodes.{counted, tallied, end_at, next_mark, mark_among, gives, pass_mark}
use Rattle.pass_nodes.proofs.EndLaws.{Clean, CleanNode, clean-node, clean-number, end_clean, first-sound}
use Rattle.pass_nodes.proofs.NodeLaws.{pass-by-nodes}

-- how a node with this mark ended
unfoldable pub end_of_mark : ℕ → Outcome
end_of_mark m = cond (eqb m 4) breaks works

mark-works : (k : Kind) (x : ℕ) (t : Tally) → end_of_mark (child_mark k x t works) ≡ works
unfolding child_mark good_mark end_of_mark
mark-works k x t = go (is_kind xor k && not (eqb (suc t.places) x))
  where
    go : (b : Bool) → end_of_mark (cond b 5 3) ≡ works
    go true = refl
    go false = refl

pub mark-end : (k : Kind) (x : ℕ) (t : Tally) (o : Outcome) → Clean o → end_of_mark (child_mark k x t o) ≡ o
unfolding child_mark end_of_mark
mark-end k x t o h = cases h (λ e. rw e (mark-works k x t)) (λ e. rw e)

root-end : (o : Outcome) → Clean o → end_of_mark (root_mark o) ≡ o
unfolding root_mark end_of_mark
root-end o h = cases h (λ e. rw e) (λ e. rw e)

-- a mark, of the children that are left
among-end : (k : Kind) (x : ℕ) (e : ℕ → Outcome) (cs : List ℕ) (t : Tally) (c : ℕ) → (number_of (e c) ≡ 0 → Clean (e c)) → (tallied k x e cs t).wrong ≡ 0 →
    (mark_among k x e cs t c ≡ 0 → ⊥) → Clean (e c) × (end_of_mark (mark_among k x e cs t c) ≡ e c)
unfolding mark_among
among-end k x e [] t c cl s nz = absurd (nz refl)
among-end k x e (d ∷ cs) t c cl s nz = cases (decided (eqb d c))
    (λ q. let same = eqb-true d c q in rw q (this (goes k x t) refl same (rw q at nz)))
    (λ q. rw q (among-end k x e cs (counted k x t (e d)) c cl (unfold tallied in s) (rw q at nz)))
  where
    this : (b : Bool) → goes k x t ≡ b → d ≡ c → (next_mark k x t (e d) ≡ 0 → ⊥) → Clean (e c) × (end_of_mark (next_mark k x t (e d)) ≡ e c)
    this true g same h = unfold next_mark in
        let q : Clean (e c) = cl (rw same at (first-sound k x e d cs t s g)) in
        (q, rw (g, same) (mark-end k x t (e c) q))
    this false g same h = absurd (h (unfold next_mark in rw g))

module _ (p : List ℕ) (ok : Accepted p) (a : List ℕ) (z : (pass p a).number ≡ 0) where
  pub record Reached (v : ℕ) : Type 0 where
    pub clean : Clean (end_at p a v)
    pub mark : end_of_mark (pass_mark p a v) ≡ end_at p a v

  pub node : (v : ℕ) → v < size p → Reached v → CleanNode (kind p v) (get_or a v 0) (end_at p a) (children p v)
  node v l r = clean-node (kind p v) (get_or a v 0) (end_at p a) (children p v) (rw ((pass-by-nodes p ok a).ends v l) at (clean-number (end_at p a v) r.clean))

  -- a reached node's child has what it gives out
  pub child-on : (v c : ℕ) → In c (children p v) → (pass_mark p a v ≡ 0 → ⊥) → pass_mark p a c ≡ gives p a v c
  child-on v c i nz = (pass-by-nodes p ok a).child z v c i ∙ rw (ne_eqb (pass_mark p a v) 0 nz)

  pub child-off : (v c : ℕ) → In c (children p v) → pass_mark p a v ≡ 0 → pass_mark p a c ≡ 0
  child-off v c i e = (pass-by-nodes p ok a).child z v c i ∙ rw e

  pub gives-is : (v c : ℕ) → gives p a v c ≡ mark_among (kind p v) (get_or a v 0) (end_at p a) (children p v) nothing c
  unfolding gives
  gives-is v c = refl

  reached-by : (n v : ℕ) → v < n → v < size p → (pass_mark p a v ≡ 0 → ⊥) → Reached v
  reached-by zero v l s nz = absurd (omega arith)
  reached-by (suc n) v l s nz = cases (decided (eqb v 0))
      (λ e. let q = end_clean p ok a 0 ok.some (sym (pass-by-nodes p ok a).number ∙ z) in
      rw (eqb-true v 0 e) (record { clean = q; mark = ap end_of_mark ((pass-by-nodes p ok a).root z) ∙ root-end (end_at p a 0) q }))
      (λ e. let ne : v ≡ 0 → ⊥ = eqb-false v 0 e in
      let low = ok.below v (omega arith) s in
      let i = parent-child p ok v (omega arith) s in
      let up : pass_mark p a (parent p v) ≡ 0 → ⊥ = λ q. nz (child-off (parent p v) v i q) in
      let r = node (parent p v) (omega arith) (reached-by n (parent p v) (omega arith) (omega arith) up) in
      let h = among-end (kind p (parent p v)) (get_or a (parent p v) 0) (end_at p a) (children p (parent p v)) nothing v (end_clean p ok a v s) r.sound
      (λ q. nz (child-on (parent p v) v i up ∙ gives-is (parent p v) v ∙ q)) in
      record { clean = h.0; mark = ap end_of_mark (child-on (parent p v) v i up ∙ gives-is (parent p v) v) ∙ h.1 })

  pub reached : (v : ℕ) → v < size p → (pass_mark p a v ≡ 0 → ⊥) → Reached v
  reached v s nz = reached-by (suc v) v (omega arith) s nz

  -- what is above a reached node is reached
  pub above-reached : (u w : ℕ) → w < size p → Under p u w → (pass_mark p a w ≡ 0 → ⊥) → pass_mark p a u ≡ 0 → ⊥
  above-reached u w s (self e) nz = subst (λ v. pass_mark p a v ≡ 0 → ⊥) (sym e) nz
  above-reached u w s (up l b) nz =
      let low = ok.below w l s in
      above-reached u (parent p w) (omega arith) b (λ q. nz (child-off (parent p w) w (parent-child p ok w l s) q))
