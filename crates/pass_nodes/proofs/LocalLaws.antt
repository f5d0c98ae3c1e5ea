-- What the pass depends on: the marks below a node on the answers in its subtree alone, and those elsewhere on no more than that node's end.
-- Assumes nothing.
use mathlib.Core.Path.{◌≡◌, refl, sym, ◌∙◌, ap, ap₂, subst}
use mathlib.Core.Bool.{cond}
use mathlib.Core.List.{List, [], ◌∷◌}
use Prim.Native.Nat.{ℕ, zero, suc, ◌+◌, ◌≤◌, ◌<◌}
use lib.Dec.{eqb}
use lib.ListN.{get_or}
use borrow.Author.Tests.{eqb-true, eqb-false}
use native.Mathlib.Omega.{arith}
use Rattle.lists.specs.Member.{In, here, there}
use Rattle.lists.proofs.Logic.{cases, decided}
use Rattle.plan.specs.Plan.{size, kind, parent, children}
use Rattle.plan.specs.declared.kinds.Kind.{Kind}
use Rattle.plan.specs.Check.{Accepted}
use Rattle.plan.specs.Under.{Under, up, Below}
use Rattle.plan.proofs.PlanLaws.{child-of}
use Rattle.plan.proofs.AcceptedLaws.{child-between, parent-child}
use Rattle.plan.proofs.UnderLaws.{under-trans, under-child, under-below}
use Rattle.pass.specs.Pass.{Outcome, Tally, nothing, number_of, root_mark, pass}
use Rattle.pass_nodes.specs.Nodes.{counted, end_by, end_at, next_mark, mark_among, gives, pass_mark}
use Rattle.pass_nodes.specs.Claim.{SameUnder, MarksBelow, SameElsewhere}
use Rattle.pass_nodes.proofs.EndLaws.{end_same, end-under}
use Rattle.pass_nodes.proofs.NodeLaws.{pass-by-nodes}
use Rattle.pass_nodes.proofs.ReachedLaws.{child-on}

among_same : (k : Kind) (x : ℕ) (e g : ℕ → Outcome) (cs : List ℕ) (t : Tally) (c : ℕ) → ((d : ℕ) → In d cs → e d ≡ g d) → mark_among k x e cs t c ≡ mark_among k x g cs t c
unfolding mark_among
among_same k x e g [] t c h = refl
among_same k x e g (d ∷ cs) t c h = ap₂ (λ m n. cond (eqb d c) m n) (ap (next_mark k x t) (h d (here refl)))
    (ap (λ o. mark_among k x e cs (counted k x t o) c) (h d (here refl)) ∙ among_same k x e g cs (counted k x t (g d)) c (λ b i. h b (there i)))

module _ (p : List ℕ) (a b : List ℕ) (v : ℕ) (answer : get_or a v 0 ≡ get_or b v 0) (kids : (c : ℕ) → In c (children p v) → end_at p a c ≡ end_at p b c) where
  -- a block gives the same marks by the same answer and the same ends of its children
  gives_same : (c : ℕ) → gives p a v c ≡ gives p b v c
  unfolding gives
  gives_same c = ap (λ x. mark_among (kind p v) x (end_at p a) (children p v) nothing c) answer
      ∙ among_same (kind p v) (get_or b v 0) (end_at p a) (end_at p b) (children p v) nothing c kids

  -- and ends so
  ends_same : Accepted p → v < size p → end_at p a v ≡ end_at p b v
  ends_same ok l = (pass-by-nodes p ok a).ends v l ∙ ap (λ x. end_by (kind p v) x (end_at p a) (children p v)) answer
      ∙ end_same (kind p v) (get_or b v 0) (end_at p a) (end_at p b) (children p v) kids ∙ sym ((pass-by-nodes p ok b).ends v l)

module _ (p : List ℕ) (ok : Accepted p) (a b : List ℕ) (v : ℕ) (same : SameUnder p a b v) (za : (pass p a).number ≡ 0) (zb : (pass p b).number ≡ 0)
    (on-a : pass_mark p a v ≡ 0 → ⊥) (on-b : pass_mark p b v ≡ 0 → ⊥) where
  gives-under : (u : ℕ) → u < size p → Under p v u → (c : ℕ) → gives p a u c ≡ gives p b u c
  gives-under u l x = gives_same p a b u (same u l x)
      (λ c i. end-under p ok a b c (child-between p ok u i).1 (λ w s y. same w s (under-trans p v u w x (under-child p u c w i y))))

  below-same : (n w : ℕ) → w < n → w < size p → Below p v w → pass_mark p a w ≡ pass_mark p b w
  below-same zero w l s h = absurd (omega arith)
  below-same (suc n) w l s h =
      let low = ok.below w h.0 s in
      let u : parent p w < size p = omega arith in
      let i = parent-child p ok w h.0 s in
      let g = gives-under (parent p w) u h.1 w in
      cases (decided (eqb v (parent p w)))
      (λ e. let q = eqb-true v (parent p w) e in
      child-on p ok a za (parent p w) w i (subst (λ z. pass_mark p a z ≡ 0 → ⊥) q on-a) ∙ g
      ∙ sym (child-on p ok b zb (parent p w) w i (subst (λ z. pass_mark p b z ≡ 0 → ⊥) q on-b)))
      (λ e. (pass-by-nodes p ok a).child za (parent p w) w i
      ∙ ap₂ (λ m n. cond (eqb m 0) 0 n) (below-same n (parent p w) (omega arith) u (under-below p v (parent p w) (eqb-false v (parent p w) e) h.1)) g
      ∙ sym ((pass-by-nodes p ok b).child zb (parent p w) w i))

pub marks-below : MarksBelow
marks-below p ok a b v same za zb on-a on-b w s h = below-same p ok a b v same za zb on-a on-b (suc w) w (omega arith) s h

module _ (p : List ℕ) (ok : Accepted p) (a b : List ℕ) (u : ℕ)
    (same : (w : ℕ) → w < size p → (Under p u w → ⊥) → get_or a w 0 ≡ get_or b w 0) (alike : end_at p a u ≡ end_at p b u) where
  -- a child of what is not in u's subtree is u, or is not in it either
  child-outside : (v c : ℕ) → In c (children p v) → (Under p u v → ⊥) → (u ≡ c → ⊥) → Under p u c → ⊥
  child-outside v c i n ne h = n (subst (Under p u) (child-of p v i).of (under-below p u c ne h).1)

  ends-outside : (f v : ℕ) → size p ≤ v + f → v < size p → (Under p u v → ⊥) → end_at p a v ≡ end_at p b v
  ends-outside zero v h l n = absurd (omega arith)
  ends-outside (suc f) v h l n = ends_same p a b v (same v l n)
      (λ c i. cases (decided (eqb u c)) (λ e. subst (λ z. end_at p a z ≡ end_at p b z) (eqb-true u c e) alike)
      (λ e. let r = child-between p ok v i in ends-outside f c (omega arith) r.1 (child-outside v c i n (eqb-false u c e)))) ok l

  -- u, and what is not in its subtree
  ends-beside : (v : ℕ) → v < size p → (Below p u v → ⊥) → end_at p a v ≡ end_at p b v
  ends-beside v l n = cases (decided (eqb u v)) (λ e. subst (λ z. end_at p a z ≡ end_at p b z) (eqb-true u v e) alike)
      (λ e. ends-outside (size p) v (omega arith) l (λ h. n (under-below p u v (eqb-false u v e) h)))

  root-beside : Below p u 0 → ⊥
  root-beside h = let z = h.0 in omega arith

  number_same : (pass p a).number ≡ (pass p b).number
  number_same = (pass-by-nodes p ok a).number ∙ ap number_of (ends-beside 0 ok.some root-beside) ∙ sym (pass-by-nodes p ok b).number

  module _ (z : (pass p a).number ≡ 0) where
    marks-beside : (n w : ℕ) → w < n → w < size p → (Below p u w → ⊥) → pass_mark p a w ≡ pass_mark p b w
    marks-beside zero w l s h = absurd (omega arith)
    marks-beside (suc n) w l s h = cases (decided (eqb w 0))
        (λ e. rw (eqb-true w 0 e) ((pass-by-nodes p ok a).root z ∙ ap root_mark (ends-beside 0 ok.some root-beside) ∙ sym ((pass-by-nodes p ok b).root (sym number_same ∙ z))))
        (λ e. let ne : w ≡ 0 → ⊥ = eqb-false w 0 e in
        let pos : 0 < w = omega arith in
        let low = ok.below w pos s in
        let i = parent-child p ok w pos s in
        let out : Under p u (parent p w) → ⊥ = λ x. h (pos, x) in
        (pass-by-nodes p ok a).child z (parent p w) w i
        ∙ ap₂ (λ m n. cond (eqb m 0) 0 n) (marks-beside n (parent p w) (omega arith) (omega arith) (λ x. out (up x.0 x.1)))
        (gives_same p a b (parent p w) (same (parent p w) (omega arith) out)
        (λ c j. let r = child-between p ok (parent p w) j in ends-beside c r.1 (λ x. out (subst (Under p u) (child-of p (parent p w) j).of x.1))) w)
        ∙ sym ((pass-by-nodes p ok b).child (sym number_same ∙ z) (parent p w) w i))

pub same-elsewhere : SameElsewhere
same-elsewhere p ok a b u same alike = (number_same p ok a b u same alike, λ z w s h. marks-beside p ok a b u same alike z (suc w) w (omega arith) s h)
