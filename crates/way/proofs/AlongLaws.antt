-- `may_end` against the pass node by node: marks along which it goes, and that the pass's own marks are such. Assumes nothing.
use mathlib.Core.Path.{◌≡◌, refl, sym, ◌∙◌, ap}
use mathlib.Core.Bool.{Bool, true, false, cond, ◌&&◌, ◌||◌, or-true}
use mathlib.Core.List.{List, [], ◌∷◌}
use mathlib.Core.Logic.{inl, inr}
use Prim.Native.Nat.{ℕ}
use lib.Dec.{eqb}
use borrow.Author.Tests.{eq-eqb, ne_eqb}
use native.Mathlib.Omega.{arith}
use Rattle.lists.specs.Member.{In, here, there, Rising, next}
use Rattle.lists.proofs.Logic.{cases, clash, and_left, and_right, and-join, either}
use Rattle.lists.proofs.Members.{rising-above, in-none}
use Rattle.plan.specs.declared.kinds.Kind.{Kind}
use Rattle.pass.specs.Pass.{Outcome, works, breaks, fault, Tally, goes, note, skip, child_mark, end_of, number_of}
use Rattle.pass_nodes.specs.Nodes.{counted, tallied, next_mark, mark_among}
use Rattle.pass_nodes.proofs.EndLaws.{Clean, first-sound, count-on, count-off, next-on, next-off}
use Rattle.pass_nodes.proofs.MarkLaws.{clean-mark}
use Rattle.pass_nodes.proofs.ReachedLaws.{end_of_mark, mark-end}
use Rattle.way.proofs.Choices.{same_end, may_end}

same_end_lem : (r o : Outcome) → same_end r o ≡ true → r ≡ o
unfolding same_end
same_end_lem works works h = refl
same_end_lem works breaks h = clash false h refl
same_end_lem works (fault n) h = clash false h refl
same_end_lem breaks works h = clash false h refl
same_end_lem breaks breaks h = refl
same_end_lem breaks (fault n) h = clash false h refl
same_end_lem (fault m) o h = clash false h refl

end_same : (o : Outcome) → Clean o → same_end o o ≡ true
unfolding same_end
end_same o h = cases h (λ e. rw e) (λ e. rw e)

module _ (can : ℕ → ℕ → Bool) (k : Kind) (x : ℕ) (o : Outcome) where
  -- marks that the children cs can have, and that make the block end as o, where each reached child ends as its mark says
  pub record Along (cs : List ℕ) (t : Tally) : Type 0 where
    pub mark : ℕ → ℕ
    pub each : (c : ℕ) → In c cs → can c (mark c) ≡ true
    pub so : (e : ℕ → Outcome) → ((c : ℕ) → In c cs → (mark c ≡ 0 → ⊥) → e c ≡ end_of_mark (mark c)) →
        (end_of k x (tallied k x e cs t) ≡ o) × ((c : ℕ) → In c cs → mark_among k x e cs t c ≡ mark c)

  module _ (d c : ℕ) (cs : List ℕ) (rise : Rising c cs) (t t' : Tally) (w : ℕ) (h : can c w ≡ true) (r : Along cs t')
      (step : (q : Outcome) → ((w ≡ 0 → ⊥) → q ≡ end_of_mark w) → (counted k x t q ≡ t') × (next_mark k x t q ≡ w)) where
    other : (d : ℕ) → In d cs → eqb c d ≡ false
    other d i = ne_eqb c d (λ q. let z = rising-above rise i in omega arith)

    marks : ℕ → ℕ
    marks d = cond (eqb c d) w (r.mark d)

    mark-here : marks c ≡ w
    unfolding marks
    mark-here = rw (eq-eqb c c refl)

    mark-there : (d : ℕ) → In d cs → marks d ≡ r.mark d
    unfolding marks
    mark-there d i = rw (other d i)

    each : (d : ℕ) → In d (c ∷ cs) → can d (marks d) ≡ true
    each d (here q) = rw (q, mark-here) h
    each d (there i) = rw (mark-there d i) (r.each d i)

    module _ (e : ℕ → Outcome) (y : (d : ℕ) → In d (c ∷ cs) → (marks d ≡ 0 → ⊥) → e d ≡ end_of_mark (marks d)) where
      first : (counted k x t (e c) ≡ t') × (next_mark k x t (e c) ≡ w)
      first = step (e c) (λ nz. y c (here refl) (λ z. nz (sym mark-here ∙ z)) ∙ ap end_of_mark mark-here)

      rest : (end_of k x (tallied k x e cs t') ≡ o) × ((d : ℕ) → In d cs → mark_among k x e cs t' d ≡ r.mark d)
      rest = r.so e (λ d i nz. y d (there i) (λ z. nz (sym (mark-there d i) ∙ z)) ∙ ap end_of_mark (mark-there d i))

      hand : (d : ℕ) → In d (c ∷ cs) → mark_among k x e (c ∷ cs) t d ≡ marks d
      unfolding mark_among
      hand d (here q) = rw (q, eq-eqb c c refl, mark-here) first.1
      hand d (there i) = rw (other d i, mark-there d i, first.0) (rest.1 d i)

      ends : end_of k x (tallied k x e (c ∷ cs) t) ≡ o
      unfolding tallied
      ends = rw first.0 rest.0

    put : Along (c ∷ cs) t
    put = record { mark = marks; each = each; so = λ e y. (ends e y, hand e y) }

  pub along : (d : ℕ) (cs : List ℕ) (t : Tally) → Rising d cs → may_end can k x cs t o ≡ true → Along cs t
  unfolding may_end tallied
  along d [] t r h = record { mark = λ c. 0; each = λ c i. absurd (in-none i); so = λ e y. (same_end_lem (end_of k x t) o h, λ c i. absurd (in-none i)) }
  along d (c ∷ cs) t (next l r) h = go (goes k x t) refl h (λ u z. along c cs u r z)
    where
      go : (b : Bool) → goes k x t ≡ b → cond b
          ((can c (child_mark k x t works) && may_end can k x cs (note x t works) o) || (can c (child_mark k x t breaks) && may_end can k x cs (note x t breaks) o))
          (can c 0 && may_end can k x cs (skip t) o) ≡ true → ((u : Tally) → may_end can k x cs u o ≡ true → Along cs u) → Along (c ∷ cs) t
      go true g q i = cases ((either _ _).0 q)
          (λ z. put d c cs r t (note x t works) (child_mark k x t works) (and_left _ _ z) (i _ (and_right (can c (child_mark k x t works)) _ z)) (by works (inl refl)))
          (λ z. put d c cs r t (note x t breaks) (child_mark k x t breaks) (and_left _ _ z) (i _ (and_right (can c (child_mark k x t breaks)) _ z)) (by breaks (inr refl)))
        where
          by : (y : Outcome) → Clean y → (q : Outcome) → ((child_mark k x t y ≡ 0 → ⊥) → q ≡ end_of_mark (child_mark k x t y)) →
              (counted k x t q ≡ note x t y) × (next_mark k x t q ≡ child_mark k x t y)
          by y cl q j = met g (j (clean-mark k x t y cl) ∙ mark-end k x t y cl)
            where
              met : goes k x t ≡ true → q ≡ y → (counted k x t q ≡ note x t y) × (next_mark k x t q ≡ child_mark k x t y)
              met g e = (count-on k x t q g ∙ ap (note x t) e, next-on k x t q g ∙ ap (child_mark k x t) e)
      go false g q i = put d c cs r t (skip t) 0 (and_left _ _ q) (i _ (and_right (can c 0) _ q)) (λ q j. (count-off k x t q g, next-off k x t q g))

  -- the pass's marks are such
  pub may_end-by : (d : ℕ) (cs : List ℕ) (t : Tally) (e : ℕ → Outcome) → Rising d cs → ((c : ℕ) → In c cs → number_of (e c) ≡ 0 → Clean (e c)) →
      ((c : ℕ) → In c cs → can c (mark_among k x e cs t c) ≡ true) → (tallied k x e cs t).wrong ≡ 0 → end_of k x (tallied k x e cs t) ≡ o → Clean o →
      may_end can k x cs t o ≡ true
  unfolding may_end
  may_end-by d [] t e r cl h s q y = unfold tallied in rw q (end_same o y)
  may_end-by d (c ∷ cs) t e (next l r) cl h s q y = go (goes k x t) refl
      (may_end-by c cs (counted k x t (e c)) e r (λ d i. cl d (there i)) (λ d i. rest d i) (unfold tallied in s) (unfold tallied in q) y)
    where
      other : (d : ℕ) → In d cs → eqb c d ≡ false
      other d i = ne_eqb c d (λ q. let z = rising-above r i in omega arith)

      this : can c (next_mark k x t (e c)) ≡ true
      this = unfold mark_among in (rw (eq-eqb c c refl) at (h c (here refl)))

      rest : (d : ℕ) → In d cs → can d (mark_among k x e cs (counted k x t (e c)) d) ≡ true
      rest d i = unfold mark_among in (rw (other d i) at (h d (there i)))

      go : (b : Bool) → goes k x t ≡ b → may_end can k x cs (counted k x t (e c)) o ≡ true → cond b
          ((can c (child_mark k x t works) && may_end can k x cs (note x t works) o) || (can c (child_mark k x t breaks) && may_end can k x cs (note x t breaks) o))
          (can c 0 && may_end can k x cs (skip t) o) ≡ true
      go true g i =
          let m : can c (child_mark k x t (e c)) ≡ true = rw (next-on k x t (e c) g) at this in
          let r : may_end can k x cs (note x t (e c)) o ≡ true = rw (count-on k x t (e c) g) at i in
          cases (cl c (here refl) (first-sound k x e c cs t s g))
          (λ z. let h : can c (child_mark k x t works) ≡ true = rw z at m in
          let i : may_end can k x cs (note x t works) o ≡ true = rw z at r in rw (h, i))
          (λ z. let h : can c (child_mark k x t breaks) ≡ true = rw z at m in
          let i : may_end can k x cs (note x t breaks) o ≡ true = rw z at r in rw (h, i) (or-true (can c (child_mark k x t works) && may_end can k x cs (note x t works) o)))
      go false g i =
          let m : can c 0 ≡ true = rw (next-off k x t (e c) g) at this in
          let r : may_end can k x cs (skip t) o ≡ true = rw (count-off k x t (e c) g) at i in
          and-join (can c 0) (may_end can k x cs (skip t) o) m r
