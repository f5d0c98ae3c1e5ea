-- How nodes end: what it depends on, that settling ends so, and what an end without a fault says of the children. Assumes nothing.
use mathlib.Core.Path.{◌≡◌, refl, sym, ◌∙◌, ap}
use mathlib.Core.Bool.{Bool, true, false, cond}
use mathlib.Core.List.{List, [], ◌∷◌}
use mathlib.Core.Logic.{◌⊎◌, inl, inr}
use Prim.Native.Nat.{ℕ, zero, suc, ◌+◌, ◌≤◌, ◌<◌}
use lib.Dec.{eqb}
use lib.ListN.{get_or}
use borrow.Author.Tests.{eqb-true, eqb-false}
use native.Mathlib.Omega.{arith}
use Rattle.lists.specs.Member.{In, here, there}
use Rattle.lists.proofs.Logic.{cases, decided}
use Rattle.plan.specs.Plan.{size, kind, children}
use Rattle.plan.specs.declared.kinds.Kind.{Kind}
use Rattle.plan.specs.Check.{Accepted}
use Rattle.plan.specs.Under.{Under, self}
use Rattle.plan.proofs.AcceptedLaws.{child-between}
use Rattle.plan.proofs.UnderLaws.{under-child}
use Rattle.pass.specs.Pass.{Outcome, works, breaks, fault, Tally, goes, note, skip, nothing, bad_answer, child_mark, ending, end_of, number_of, Settled, Walked, child_settled, meet_by, meet, walk, unwalked, close, settle_if, settle_by, settle}
use Rattle.pass_nodes.specs.Nodes.{counted, tallied, end_by, end_within, end_at, next_mark}

module _ (k : Kind) (x : ℕ) where
  tally-same : (e g : ℕ → Outcome) (cs : List ℕ) (t : Tally) → ((c : ℕ) → In c cs → e c ≡ g c) → tallied k x e cs t ≡ tallied k x g cs t
  unfolding tallied
  tally-same e g [] t h = refl
  tally-same e g (c ∷ cs) t h =
      ap (λ o. tallied k x e cs (counted k x t o)) (h c (here refl)) ∙ tally-same e g cs (counted k x t (g c)) (λ d i. h d (there i))

  pub end_same : (e g : ℕ → Outcome) (cs : List ℕ) → ((c : ℕ) → In c cs → e c ≡ g c) → end_by k x e cs ≡ end_by k x g cs
  unfolding end_by
  end_same e g cs h = ap (λ t. cond (eqb (bad_answer k x) 0) (end_of k x t) (fault (bad_answer k x))) (tally-same e g cs nothing h)

  -- settling, where children end as e says
  module _ (f : ℕ → List ℕ → Settled) (e : ℕ → Outcome) where
    pub meet-tally : (w : Walked) (c : ℕ) → (f c w.marks).outcome ≡ e c → (meet f k x w c).tally ≡ counted k x w.tally (e c)
    unfolding meet meet_by child_settled counted
    meet-tally w c h = go (goes k x w.tally)
      where
        go : (b : Bool) → (meet_by b f k x w c).tally ≡ cond b (note x w.tally (e c)) (skip w.tally)
        go true = ap (note x w.tally) h
        go false = refl

    walk-tally : (cs : List ℕ) (w : Walked) → ((c : ℕ) → In c cs → (m : List ℕ) → (f c m).outcome ≡ e c) → (walk f k x cs w).tally ≡ tallied k x e cs w.tally
    unfolding walk tallied
    walk-tally [] w h = refl
    walk-tally (c ∷ cs) w h =
        walk-tally cs (meet f k x w c) (λ d i. h d (there i)) ∙ ap (tallied k x e cs) (meet-tally w c (h c (here refl) w.marks))

    by_end : (cs m : List ℕ) → ((c : ℕ) → In c cs → (m : List ℕ) → (f c m).outcome ≡ e c) → (settle_by k x f cs m).outcome ≡ end_by k x e cs
    unfolding settle_by settle_if close end_by unwalked
    by_end cs m h = go (eqb (bad_answer k x) 0)
      where
        go : (b : Bool) → (settle_if b k x f cs m).outcome ≡ cond b (end_of k x (tallied k x e cs nothing)) (fault (bad_answer k x))
        go true = ap (end_of k x) (walk-tally cs (unwalked m) h)
        go false = refl

module _ (p : List ℕ) (ok : Accepted p) where
  within-fuel : (a : List ℕ) (f g v : ℕ) → size p ≤ v + f → size p ≤ v + g → v < size p → end_within p a f v ≡ end_within p a g v
  unfolding end_within
  within-fuel a zero g v h k l = absurd (omega arith)
  within-fuel a (suc f) zero v h k l = absurd (omega arith)
  within-fuel a (suc f) (suc g) v h k l =
      end_same (kind p v) (get_or a v 0) (λ c. end_within p a f c) (λ c. end_within p a g c) (children p v)
      (λ c i. let b = child-between p ok v i in within-fuel a f g c (omega arith) (omega arith) b.1)

  pub end_is : (a : List ℕ) (v : ℕ) → v < size p → end_at p a v ≡ end_by (kind p v) (get_or a v 0) (end_at p a) (children p v)
  unfolding end_at end_within
  end_is a v l = within-fuel a (size p) (suc (size p)) v (omega arith) (omega arith) l

  within-under : (a b : List ℕ) (f v : ℕ) → v < size p → ((w : ℕ) → w < size p → Under p v w → get_or a w 0 ≡ get_or b w 0) → end_within p a f v ≡ end_within p b f v
  unfolding end_within
  within-under a b zero v l h = refl
  within-under a b (suc f) v l h =
      ap (λ x. end_by (kind p v) x (λ c. end_within p a f c) (children p v)) (h v l (self refl))
      ∙ end_same (kind p v) (get_or b v 0) (λ c. end_within p a f c) (λ c. end_within p b f c) (children p v)
      (λ c i. within-under a b f c (child-between p ok v i).1 (λ w s u. h w s (under-child p v c w i u)))

  -- how v ends depends on the answers in its subtree alone
  pub end-under : (a b : List ℕ) (v : ℕ) → v < size p → ((w : ℕ) → w < size p → Under p v w → get_or a w 0 ≡ get_or b w 0) → end_at p a v ≡ end_at p b v
  unfolding end_at
  end-under a b v l h = within-under a b (size p) v l h

  pub settle-end : (a : List ℕ) (f v : ℕ) (m : List ℕ) → size p ≤ v + f → v < size p → (settle p a f v m).outcome ≡ end_at p a v
  unfolding settle
  settle-end a zero v m h l = absurd (omega arith)
  settle-end a (suc f) v m h l =
      by_end (kind p v) (get_or a v 0) (λ c n. settle p a f c n) (end_at p a) (children p v) m
      (λ c i n. let b = child-between p ok v i in settle-end a f c n (omega arith) b.1)
      ∙ sym (end_is a v l)

-- an end without a fault
abbrev pub Clean : Outcome → Type 0
Clean o = (o ≡ works) ⊎ (o ≡ breaks)

ending-clean : (w x : ℕ) (b : Bool) → number_of (ending w x b) ≡ 0 → (w ≡ 0) × Clean (ending w x b)
unfolding ending number_of
ending-clean w x b h = cases (decided (eqb w 0))
    (λ e. (eqb-true w 0 e, rw e (cases (decided (eqb x 0)) (λ f. rw f (go b)) (λ f. absurd (eqb-false x 0 f (rw (e, f) at h))))))
    (λ e. absurd (eqb-false w 0 e (rw e at h)))
  where
    go : (b : Bool) → Clean (cond b works breaks)
    go true = inl refl
    go false = inr refl

-- a node without a fault: its answer is right, and so are its children's ends
pub record CleanNode (k : Kind) (x : ℕ) (e : ℕ → Outcome) (cs : List ℕ) : Type 0 where
  pub answer : bad_answer k x ≡ 0
  pub end : end_by k x e cs ≡ end_of k x (tallied k x e cs nothing)
  pub sound : (tallied k x e cs nothing).wrong ≡ 0
  pub clean : Clean (end_by k x e cs)

pub clean-node : (k : Kind) (x : ℕ) (e : ℕ → Outcome) (cs : List ℕ) → number_of (end_by k x e cs) ≡ 0 → CleanNode k x e cs
unfolding end_by end_of number_of
clean-node k x e cs h = cases (decided (eqb (bad_answer k x) 0))
    (λ q. let r = ending-clean _ _ _ (rw q at h) in record { answer = eqb-true _ _ q; end = rw q; sound = r.0; clean = rw q r.1 })
    (λ q. absurd (eqb-false (bad_answer k x) 0 q (rw q at h)))

pub clean-number : (o : Outcome) → Clean o → number_of o ≡ 0
unfolding number_of
clean-number o h = cases h (λ e. rw e) (λ e. rw e)

pub end_clean : (p : List ℕ) → Accepted p → (a : List ℕ) (v : ℕ) → v < size p → number_of (end_at p a v) ≡ 0 → Clean (end_at p a v)
end_clean p ok a v l h = rw (end_is p ok a v l) (clean-node (kind p v) (get_or a v 0) (end_at p a) (children p v) (rw (end_is p ok a v l) at h)).clean

-- a fault stays
goes-wrong : (k : Kind) (x : ℕ) (t : Tally) → eqb t.wrong 0 ≡ false → goes k x t ≡ false
unfolding goes
goes-wrong k x t h = rw h

pub count-off : (k : Kind) (x : ℕ) (t : Tally) (o : Outcome) → goes k x t ≡ false → counted k x t o ≡ skip t
unfolding counted
count-off k x t o g = rw g

pub count-on : (k : Kind) (x : ℕ) (t : Tally) (o : Outcome) → goes k x t ≡ true → counted k x t o ≡ note x t o
unfolding counted
count-on k x t o g = rw g

pub next-off : (k : Kind) (x : ℕ) (t : Tally) (o : Outcome) → goes k x t ≡ false → next_mark k x t o ≡ 0
unfolding next_mark
next-off k x t o g = rw g

pub next-on : (k : Kind) (x : ℕ) (t : Tally) (o : Outcome) → goes k x t ≡ true → next_mark k x t o ≡ child_mark k x t o
unfolding next_mark
next-on k x t o g = rw g

tally-wrong : (k : Kind) (x : ℕ) (e : ℕ → Outcome) (cs : List ℕ) (t : Tally) → eqb t.wrong 0 ≡ false → (tallied k x e cs t).wrong ≡ t.wrong
unfolding tallied skip
tally-wrong k x e [] t h = refl
tally-wrong k x e (c ∷ cs) t h = ap (λ u. (tallied k x e cs u).wrong) (count-off k x t (e c) (goes-wrong k x t h)) ∙ tally-wrong k x e cs (skip t) h

pub tally-sound : (k : Kind) (x : ℕ) (e : ℕ → Outcome) (cs : List ℕ) (t : Tally) → (tallied k x e cs t).wrong ≡ 0 → t.wrong ≡ 0
tally-sound k x e cs t h = cases (decided (eqb t.wrong 0)) (λ q. eqb-true _ _ q) (λ q. sym (tally-wrong k x e cs t q) ∙ h)

note-number : (x : ℕ) (t : Tally) (o : Outcome) → (note x t o).wrong ≡ 0 → number_of o ≡ 0
unfolding note number_of
note-number x t works h = refl
note-number x t breaks h = refl
note-number x t (fault n) h = h

-- the first child that is reached ends without a fault, where the whole tally has none
pub first-sound : (k : Kind) (x : ℕ) (e : ℕ → Outcome) (c : ℕ) (cs : List ℕ) (t : Tally) → (tallied k x e (c ∷ cs) t).wrong ≡ 0 → goes k x t ≡ true → number_of (e c) ≡ 0
unfolding tallied
first-sound k x e c cs t h g = note-number x t (e c) (tally-sound k x e cs (note x t (e c)) (sym (ap (λ u. (tallied k x e cs u).wrong) (count-on k x t (e c) g)) ∙ h))
