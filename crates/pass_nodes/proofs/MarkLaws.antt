-- The marks that settling a node leaves: every child's is the one that its parent gives out. The walk over the children is taken from the
-- front: what is left of it writes the subtrees of the children that are left. Assumes nothing.
use mathlib.Core.Path.{◌≡◌, refl, sym, ◌∙◌, ap, subst}
use mathlib.Core.Bool.{Bool, true, false, cond, ◌&&◌, not}
use mathlib.Core.List.{List, [], ◌∷◌}
use Prim.Native.Nat.{ℕ, zero, suc, ◌+◌, ◌≤◌, ◌<◌}
use lib.Dec.{eqb}
use lib.ListN.{get_or, length, length-set, set}
use lib.Seq.{get_or-set_same, get_or-set_other}
use borrow.Author.Tests.{eqb-true, eqb-false, eq-eqb, ne_eqb}
use native.Mathlib.Omega.{arith}
use Rattle.lists.specs.Member.{In, here, there, Rising, next}
use Rattle.lists.proofs.Logic.{cases, decided}
use Rattle.lists.proofs.Members.{in-none, rising-above}
use Rattle.plan.specs.Plan.{is_kind, size, kind, children}
use Rattle.plan.specs.declared.kinds.Kind.{Kind}
use Rattle.plan.specs.declared.kinds.Kind.TheVariants.{Xor as xor}
use Rattle.plan.specs.Check.{Accepted}
use Rattle.plan.specs.Under.{Under, self}
use Rattle.plan.proofs.PlanLaws.{rising-children}
use Rattle.plan.proofs.AcceptedLaws.{child-between}
use Rattle.pass.specs.Pass.{Outcome, Tally, goes, good_mark, child_mark, number_of, Settled, Walked, child_settled, meet_by, meet, walk, unwalked, close, settle_if, settle_by, settle}
use Rattle.pass_nodes.specs.Nodes.{counted, tallied, end_at, next_mark, mark_among, gives}
use Rattle.plan.proofs.UnderLaws.{under-trans, under-child, child-under, under_low, under-below, apart, through}
use Rattle.pass_nodes.proofs.EndLaws.{meet-tally, end_is, settle-end, Clean, clean-node, end_clean, first-sound}

-- a right end has a mark other than 0
good-mark : (k : Kind) (x n : ℕ) → good_mark k x n ≡ 0 → ⊥
unfolding good_mark
good-mark k x n = go (is_kind xor k && (not (eqb n x)))
  where
    go : (b : Bool) → ◌≡◌ {A = ℕ} (cond b 5 3) 0 → ⊥
    go true h = omega arith
    go false h = omega arith

pub clean-mark : (k : Kind) (x : ℕ) (t : Tally) (o : Outcome) → Clean o → child_mark k x t o ≡ 0 → ⊥
unfolding child_mark
clean-mark k x t o h e = cases h (λ q. good-mark k x (suc t.places) (rw q at e)) (λ q. let z : ◌≡◌ {A = ℕ} 4 0 = rw q at e in omega arith)

module _ (p : List ℕ) (ok : Accepted p) (a : List ℕ) where
  -- u's children have the marks that it gives out, if it is reached
  abbrev pub Local : List ℕ → ℕ → Type 0
  Local m u = (c : ℕ) → In c (children p u) → get_or m c 0 ≡ cond (eqb (get_or m u 0) 0) 0 (gives p a u c)

  -- settling v with marks m left the marks n
  pub record Wrote (v : ℕ) (m n : List ℕ) : Type 0 where
    pub long : length n ≡ size p
    pub own : (c : ℕ) → In c (children p v) → get_or n c 0 ≡ gives p a v c
    pub deep : (u : ℕ) → u < size p → Under p v u → (v ≡ u → ⊥) → Local n u
    pub frame : (u : ℕ) → ((c : ℕ) → In c (children p v) → Under p c u → ⊥) → get_or n u 0 ≡ get_or m u 0

  -- nothing is written below v
  abbrev pub Blank : ℕ → List ℕ → Type 0
  Blank v m = (u : ℕ) → u < size p → Under p v u → (v ≡ u → ⊥) → get_or m u 0 ≡ 0

  -- what settles v's children
  abbrev Settler : (ℕ → List ℕ → Settled) → ℕ → Type 0
  Settler f c = (m : List ℕ) → length m ≡ size p → Blank c m → number_of (end_at p a c) ≡ 0 → Wrote c m (f c m).marks

  -- from marks m to n, where cs of v's children were met with tally t
  record Went (v : ℕ) (cs : List ℕ) (t : Tally) (m n : List ℕ) : Type 0 where
    long : length n ≡ size p
    own : (c : ℕ) → In c cs → get_or n c 0 ≡ mark_among (kind p v) (get_or a v 0) (end_at p a) cs t c
    deep : (c : ℕ) → In c cs → (u : ℕ) → u < size p → Under p c u → Local n u
    frame : (u : ℕ) → ((c : ℕ) → In c cs → Under p c u → ⊥) → get_or n u 0 ≡ get_or m u 0

  -- all of c's subtree is unwritten
  abbrev Clear : ℕ → List ℕ → Type 0
  Clear c m = (u : ℕ) → u < size p → Under p c u → get_or m u 0 ≡ 0

  -- one child c, which got the mark x
  record Step (c x : ℕ) (m n : List ℕ) : Type 0 where
    long : length n ≡ size p
    own : get_or n c 0 ≡ x
    deep : (u : ℕ) → u < size p → Under p c u → Local n u
    frame : (u : ℕ) → (Under p c u → ⊥) → get_or n u 0 ≡ get_or m u 0

  skipped : (c : ℕ) (m : List ℕ) → c < size p → length m ≡ size p → Clear c m → Step c 0 m m
  skipped c m s l h = record {
    long = l;
    own = h c s (self refl);
    deep = λ u b un d i. rw (h u b un) (h d (child-between p ok u i).1 (under_of un i));
    frame = λ u n. refl;
  }
    where
      under_of : {u d : ℕ} → Under p c u → In d (children p u) → Under p c d
      under_of {u} {d} un i = under-trans p c u d un (child-under p u d i)

  reached : (c x : ℕ) (m n : List ℕ) → c < size p → (x ≡ 0 → ⊥) → Wrote c m n → Step c x m (set n c x)
  reached c x m n s nz w = record {
    long = length-set n c x ∙ w.long;
    own = here-is;
    deep = deep;
    frame = λ u h. get_or-set_other n c u x 0 (λ e. h (self (sym e))) ∙ w.frame u (λ d i b. h (under-child p c d u i b));
  }
    where
      here-is : get_or (set n c x) c 0 ≡ x
      here-is = get_or-set_same n c x 0 (omega (arith, w.long))

      -- a node below c keeps its mark
      other : (d : ℕ) → d < size p → Under p c d → (c ≡ d → ⊥) → get_or (set n c x) d 0 ≡ get_or n d 0
      other d b un ne = get_or-set_other n c d x 0 (λ e. ne (sym e))

      deep : (u : ℕ) → u < size p → Under p c u → Local (set n c x) u
      deep u b un d i =
          let r = child-between p ok u i in
          let low = under_low p ok c u b un in
          let this : get_or (set n c x) d 0 ≡ get_or n d 0 = get_or-set_other n c d x 0 (λ e. omega arith) in
          cases (decided (eqb c u))
          (λ e. let q = eqb-true c u e in
          let nz' : get_or (set n c x) u 0 ≡ 0 → ⊥ = λ z. nz (sym here-is ∙ ap (λ y. get_or (set n c x) y 0) q ∙ z) in
          rw (ne_eqb _ 0 nz') (this ∙ ap (λ y. get_or n d 0) q ∙ w.own d (subst (λ y. In d (children p y)) (sym q) i) ∙ ap (λ y. gives p a y d) q))
          (λ e. let ne = eqb-false c u e in
          let that : get_or (set n c x) u 0 ≡ get_or n u 0 = get_or-set_other n c u x 0 (λ z. ne (sym z)) in
          rw that (this ∙ w.deep u b un ne d i))

  module _ (v : ℕ) (f : ℕ → List ℕ → Settled) where
    abbrev k : Kind
    k = kind p v

    abbrev x : ℕ
    x = get_or a v 0

    step : (t : Walked) (c : ℕ) → c < size p → (f c t.marks).outcome ≡ end_at p a c → Settler f c → length t.marks ≡ size p → Clear c t.marks →
        (goes k x t.tally ≡ true → number_of (end_at p a c) ≡ 0) → Step c (next_mark k x t.tally (end_at p a c)) t.marks (meet f k x t c).marks
    unfolding next_mark meet meet_by child_settled
    step t c s e y l h sound = go (goes k x t.tally) sound
      where
        go : (b : Bool) → (b ≡ true → number_of (end_at p a c) ≡ 0) → Step c (cond b (child_mark k x t.tally (end_at p a c)) 0) t.marks (meet_by b f k x t c).marks
        go true q = rw e (reached c _ t.marks (f c t.marks).marks s (clean-mark k x t.tally (end_at p a c) (end_clean p ok a c s (q refl)))
            (y t.marks l (λ u b un ne. h u b un) (q refl)))
        go false q = skipped c t.marks s l h

    went : (d : ℕ) (cs : List ℕ) (t : Walked) → Rising d cs → ((c : ℕ) → In c cs → In c (children p v)) →
        ((c : ℕ) → In c cs → (m : List ℕ) → (f c m).outcome ≡ end_at p a c) → ((c : ℕ) → In c cs → Settler f c) → length t.marks ≡ size p →
        ((c : ℕ) → In c cs → Clear c t.marks) → (tallied k x (end_at p a) cs t.tally).wrong ≡ 0 → Went v cs t.tally t.marks (walk f k x cs t).marks
    unfolding walk mark_among
    went d [] t r kin e y l h s = record { long = l; own = λ c i. absurd (in-none i); deep = λ c i. absurd (in-none i); frame = λ u n. refl }
    went d (c ∷ cs) t (next lt r) kin e y l h s = join (went c cs (meet f k x t c) r (λ c i. kin c (there i)) (λ c i. e c (there i)) (λ c i. y c (there i)) one.long
        (λ c' i u b un. one.frame u (λ un'. others c' i u un' un) ∙ h c' (there i) u b un) (rw met s'))
      where
        met : (meet f k x t c).tally ≡ counted k x t.tally (end_at p a c)
        met = meet-tally k x f (end_at p a) t c (e c (here refl) t.marks)

        s' : (tallied k x (end_at p a) cs (counted k x t.tally (end_at p a c))).wrong ≡ 0
        s' = unfold tallied in s

        here_in : In c (children p v)
        here_in = kin c (here refl)

        one : Step c (next_mark k x t.tally (end_at p a c)) t.marks (meet f k x t c).marks
        one = step t c (child-between p ok v here_in).1 (e c (here refl) t.marks) (y c (here refl)) l (h c (here refl))
            (λ g. first-sound k x (end_at p a) c cs t.tally s g)

        less : (c' : ℕ) → In c' cs → c ≡ c' → ⊥
        less c' i q = let z = rising-above r i in omega arith

        others : (c' : ℕ) → In c' cs → (u : ℕ) → Under p c u → Under p c' u → ⊥
        others c' i u = apart p ok v c c' here_in (kin c' (there i)) (less c' i) u

        join : Went v cs (meet f k x t c).tally (meet f k x t c).marks (walk f k x cs (meet f k x t c)).marks →
            Went v (c ∷ cs) t.tally t.marks (walk f k x cs (meet f k x t c)).marks
        join w = record { long = w.long; own = own; deep = deep; frame = frame }
          where
            same : (u : ℕ) → Under p c u → get_or (walk f k x cs (meet f k x t c)).marks u 0 ≡ get_or (meet f k x t c).marks u 0
            same u un = w.frame u (λ c' i un'. others c' i u un un')

            own : (c' : ℕ) → In c' (c ∷ cs) → get_or (walk f k x cs (meet f k x t c)).marks c' 0
                ≡ cond (eqb c c') (next_mark k x t.tally (end_at p a c)) (mark_among k x (end_at p a) cs (counted k x t.tally (end_at p a c)) c')
            own c' (here q) = rw (q, eq-eqb c c refl) (same c (self refl) ∙ one.own)
            own c' (there i) = rw (ne_eqb c c' (less c' i), ← met) (w.own c' i)

            deep : (c' : ℕ) → In c' (c ∷ cs) → (u : ℕ) → u < size p → Under p c' u → Local (walk f k x cs (meet f k x t c)).marks u
            deep c' (here q) u b un = λ d' i.
                let un' : Under p c u = subst (λ y. Under p y u) q un in
                rw (same u un', same d' (under-trans p c u d' un' (child-under p u d' i))) (one.deep u b un' d' i)
            deep c' (there i) u b un = w.deep c' i u b un

            frame : (u : ℕ) → ((c' : ℕ) → In c' (c ∷ cs) → Under p c' u → ⊥) → get_or (walk f k x cs (meet f k x t c)).marks u 0 ≡ get_or t.marks u 0
            frame u n = w.frame u (λ c' i. n c' (there i)) ∙ one.frame u (n c (here refl))

  pub settle-wrote : (f v : ℕ) (m : List ℕ) → size p ≤ v + f → v < size p → length m ≡ size p → Blank v m → number_of (end_at p a v) ≡ 0 →
      Wrote v m (settle p a f v m).marks
  unfolding settle settle_by settle_if close unwalked gives
  settle-wrote zero v m h l e blank s = absurd (omega arith)
  settle-wrote (suc f) v m h l e blank s =
      let q = clean-node (kind p v) (get_or a v 0) (end_at p a) (children p v) (rw (end_is p ok a v l) at s) in
      let w = went v (λ c n. settle p a f c n) 0 (children p v) (unwalked m) (rising-children p v) (λ c i. i)
      (λ c i n. let b = child-between p ok v i in settle-end p ok a f c n (omega arith) b.1)
      (λ c i n e' bl s'. let b = child-between p ok v i in settle-wrote f c n (omega arith) b.1 e' bl s') e
      (λ c i u b un. let r = child-between p ok v i in let low = under_low p ok c u b un in blank u b (under-child p v c u i un) (λ z. omega arith)) q.sound in
      rw q.answer (record {
        long = w.long;
        own = w.own;
        deep = λ u b un ne. let r = through p ok v u b (under-below p v u ne un) in w.deep r.0 r.1 u b r.2;
        frame = w.frame;
      })
