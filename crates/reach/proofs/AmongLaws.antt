-- The marks that a block gives its children where one child ends otherwise, and the end of an xor. Assumes nothing.
use mathlib.Core.Path.{◌≡◌, refl, sym, ◌∙◌, ap, subst}
use mathlib.Core.Bool.{Bool, true, false, cond}
use mathlib.Core.List.{List, [], ◌∷◌}
use mathlib.Core.Logic.{◌⊎◌, inl, inr}
use Prim.Native.Nat.{ℕ, suc, ◌≤◌}
use lib.Dec.{eqb}
use borrow.Author.Tests.{eqb-true, eq-eqb, ne_eqb}
use native.Mathlib.Omega.{arith}
use Rattle.lists.specs.Member.{In, here, there, Rising, next}
use Rattle.lists.proofs.Logic.{cases, clash, decided}
use Rattle.lists.proofs.Members.{rising-above}
use Rattle.plan.specs.declared.kinds.Kind.{Kind}
use Rattle.plan.specs.declared.kinds.Kind.TheVariants.{Task as task, Serial as serial, And as and, Or as or, Xor as xor, Contingency as contingency, Conditional as conditional, Waiting as waiting}
use Rattle.pass.specs.Pass.{Outcome, works, breaks, fault, Tally, goes, goes_by, note, skip, nothing, good_mark, child_mark, bad_pick, closes, ending, end_of, number_of}
use Rattle.pass_nodes.specs.Nodes.{counted, tallied, end_by, next_mark, mark_among}
use Rattle.pass_nodes.proofs.EndLaws.{clean-node, tally-sound}

-- a child's mark depends on the ends of the children up to it
pub among-before : (k : Kind) (x : ℕ) (e g : ℕ → Outcome) (b : ℕ) (cs : List ℕ) (t : Tally) (c : ℕ) → Rising b cs → In c cs →
    ((d : ℕ) → In d cs → d ≤ c → e d ≡ g d) → mark_among k x e cs t c ≡ mark_among k x g cs t c
unfolding mark_among
among-before k x e g b [] t c _ x5 h = elim x5 [ ]
among-before k x e g b (d ∷ cs) t c (next l r) (here q) h = rw (eq-eqb d c (sym q)) (ap (next_mark k x t) (h d (here refl) (omega arith)))
among-before k x e g b (d ∷ cs) t c (next l r) (there i) h =
    let z = rising-above r i in
    rw (ne_eqb d c (λ q. omega arith))
    (ap (λ o. mark_among k x e cs (counted k x t o) c) (h d (here refl) (omega arith))
    ∙ among-before k x e g d cs (counted k x t (g d)) c r i (λ b j. h b (there j)))

-- blocks that settle their children one after another
unfoldable pub one_by_one : Kind → Bool
one_by_one task = false
one_by_one serial = true
one_by_one and = false
one_by_one or = false
one_by_one xor = false
one_by_one contingency = true
one_by_one conditional = false
one_by_one waiting = false

pub one-by-one-kinds : (k : Kind) → one_by_one k ≡ true → (k ≡ serial) ⊎ (k ≡ contingency)
unfolding one_by_one
one-by-one-kinds task e = clash false e refl
one-by-one-kinds serial e = inl refl
one-by-one-kinds and e = clash false e refl
one-by-one-kinds or e = clash false e refl
one-by-one-kinds xor e = clash false e refl
one-by-one-kinds contingency e = inr refl
one-by-one-kinds conditional e = clash false e refl
one-by-one-kinds waiting e = clash false e refl

goes-free : (k : Kind) → one_by_one k ≡ false → (x : ℕ) (t u : Tally) → t.places ≡ u.places → t.wrong ≡ 0 → u.wrong ≡ 0 → goes k x t ≡ goes k x u
unfolding goes goes_by one_by_one
goes-free task f x t u p w z = rw (w, z)
goes-free serial f x t u p w z = clash true refl f
goes-free and f x t u p w z = rw (w, z)
goes-free or f x t u p w z = rw (w, z)
goes-free xor f x t u p w z = rw (w, z)
goes-free contingency f x t u p w z = clash true refl f
goes-free conditional f x t u p w z = rw (w, z, p)
goes-free waiting f x t u p w z = rw (w, z)

mark-places : (k : Kind) (x : ℕ) (t u : Tally) (o : Outcome) → t.places ≡ u.places → child_mark k x t o ≡ child_mark k x u o
unfolding child_mark
mark-places k x t u works p = ap (λ n. good_mark k x (suc n)) p
mark-places k x t u breaks p = refl
mark-places k x t u (fault n) p = refl

count-places : (k : Kind) (x : ℕ) (t : Tally) (o : Outcome) → (counted k x t o).places ≡ suc t.places
unfolding counted note skip
count-places k x t o = go (goes k x t) o
  where
    go : (b : Bool) (o : Outcome) → (cond b (note x t o) (skip t)).places ≡ suc t.places
    go true works = refl
    go true breaks = refl
    go true (fault n) = refl
    go false o = refl

-- in any other block, where no child has a fault, the end of one child y does not count for the mark of another
module _ (k : Kind) (free : one_by_one k ≡ false) (x : ℕ) (e g : ℕ → Outcome) (y : ℕ) where
  pub among-free : (cs : List ℕ) (t u : Tally) (c : ℕ) → t.places ≡ u.places → (tallied k x e cs t).wrong ≡ 0 → (tallied k x g cs u).wrong ≡ 0 →
      ((d : ℕ) → In d cs → (d ≡ y → ⊥) → e d ≡ g d) → (c ≡ y → ⊥) → mark_among k x e cs t c ≡ mark_among k x g cs u c
  unfolding mark_among
  among-free [] t u c p w z s n = refl
  among-free (d ∷ cs) t u c p w z s n = cases (decided (eqb d c))
      (λ q. rw q (this (eqb-true d c q)))
      (λ q. rw q (among-free cs (counted k x t (e d)) (counted k x u (g d)) c
      (count-places k x t (e d) ∙ ap suc p ∙ sym (count-places k x u (g d))) (unfold tallied in w) (unfold tallied in z) (λ b i. s b (there i)) n))
    where
      this : d ≡ c → next_mark k x t (e d) ≡ next_mark k x u (g d)
      this q = unfold next_mark in
          rw (s d (here refl) (λ z. n (sym q ∙ z)), goes-free k free x t u p (tally-sound k x e (d ∷ cs) t w) (tally-sound k x g (d ∷ cs) u z), mark-places k x t u (g d) p)

-- no child stands in place 0
unchosen : (e : ℕ → Outcome) (cs : List ℕ) (t : Tally) → t.chosen ≡ false → (tallied xor 0 e cs t).chosen ≡ false
unfolding tallied counted note skip
unchosen e [] t h = h
unchosen e (c ∷ cs) t h = unchosen e cs (counted xor 0 t (e c)) (go (goes xor 0 t) (e c))
  where
    go : (b : Bool) (o : Outcome) → (cond b (note 0 t o) (skip t)).chosen ≡ false
    go true works = rw (h, ne_eqb (suc t.places) 0 (λ z. omega arith))
    go true breaks = h
    go true (fault n) = h
    go false o = h

-- an xor's end without a fault: y says whether its answer is 0
xor-by : (y worked chosen : Bool) → (y ≡ true → chosen ≡ false) → number_of (ending 0 (cond (cond worked chosen y) 0 14) worked) ≡ 0 →
    ending 0 (cond (cond worked chosen y) 0 14) worked ≡ cond y breaks works
unfolding ending number_of
xor-by true true true c h = clash true refl (c refl)
xor-by true true false c h = absurd (omega arith)
xor-by true false chosen c h = refl
xor-by false true true c h = refl
xor-by false true false c h = absurd (omega arith)
xor-by false false chosen c h = absurd (omega arith)

end-xor : (x : ℕ) (t : Tally) → t.wrong ≡ 0 → (x ≡ 0 → t.chosen ≡ false) → number_of (end_of xor x t) ≡ 0 → end_of xor x t ≡ cond (eqb x 0) breaks works
unfolding end_of bad_pick closes
end-xor x t w c h = rw w (xor-by (eqb x 0) t.worked t.chosen (λ e. c (eqb-true x 0 e)) (rw w at h))

-- an xor without a fault ends as its answer says: it works where it picks
pub xor-end : (x : ℕ) (e : ℕ → Outcome) (cs : List ℕ) → number_of (end_by xor x e cs) ≡ 0 → end_by xor x e cs ≡ cond (eqb x 0) breaks works
unfolding nothing
xor-end x e cs h =
    let n = clean-node xor x e cs h in
    n.end ∙ end-xor x (tallied xor x e cs nothing) n.sound
    (λ z. subst (λ j. (tallied xor j e cs nothing).chosen ≡ false) (sym z) (unchosen e cs nothing refl)) (ap number_of (sym n.end) ∙ h)
