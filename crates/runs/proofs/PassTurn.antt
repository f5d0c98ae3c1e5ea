-- The pass beside a stuck run, over answers that agree with it: a block reaches just its started children, and notes each as it ended.
-- Assumes nothing.
use mathlib.Core.Path.{◌≡◌, refl, sym, ◌∙◌, ap, subst}
use mathlib.Core.Bool.{Bool, true, false, not, ◌&&◌, cond}
use mathlib.Core.List.{List, [], ◌∷◌, ◌++◌, append_assoc, append-nil}
use mathlib.Core.Logic.{◌⊎◌}
use Prim.Native.Nat.{ℕ, suc, ◌<◌}
use lib.Dec.{eqb, ltb}
use lib.ListN.{get_or, length}
use borrow.Author.Tests.{eq-eqb, ne_eqb, not-true}
use native.Mathlib.Omega.{arith}
use Rattle.lists.specs.Seq.{any, earlier}
use Rattle.lists.specs.Member.{In, here}
use Rattle.lists.proofs.Logic.{cases, same_bool, no_bool, clash, decided}
use Rattle.lists.proofs.Members.{all-at, all-by, any_at, in_some}
use Rattle.lists.proofs.Points.{any_none, in_right, any-keep, in-earlier, earlier-in, earlier-split, place-injective}
use Rattle.plan.specs.Plan.{kind_number, is_kind, size, kind, children}
use Rattle.plan.specs.declared.kinds.Kind.{Kind}
use Rattle.plan.specs.declared.kinds.Kind.TheVariants.{Task as task, Serial as serial, And as and, Or as or, Xor as xor, Contingency as contingency, Conditional as conditional, Waiting as waiting}
use Rattle.plan.specs.Check.{Accepted}
use Rattle.plan.proofs.KindLaws.{same_kind}
use Rattle.plan.proofs.PlanLaws.{rising-children, child-of}
use Rattle.central.specs.Mark.{committed, failed, turned_down, mark_number, is_mark}
use Rattle.central.specs.Central.{said-yes, said-no, Central, is_yes, is_no, marked, started, reached_by}
use Rattle.pass.specs.Pass.{Settled, Walked, goes_by, goes, good_mark, child_mark, child_settled, meet_by, meet, walk, unwalked}
use Rattle.runs.specs.Agree.{place_of, Agrees}
use Rattle.runs.specs.Claims.{Stuck, ended}
use Rattle.runs.proofs.Said.{said_by, said}
use Rattle.runs.proofs.Family.{child-high, child-xor}
use Rattle.runs.proofs.Good.{Good}
use Rattle.runs.proofs.MarkLaws.{mark-is, is_worked, commit-worked, commit-not-failed, failed-not-worked, ended-well, outcome_of}
use Rattle.runs.proofs.Facts.{child-placed, down-xor, down-picked}
use Rattle.runs.proofs.Stuck.{starts, is-answered}
use Rattle.runs.proofs.Ended.{serial-chain, contingency-chain, picked-committed, all_start, all-ended}
use Rattle.runs.proofs.PassTally.{Settles, Tallied, tally-none, tally-skip, tally-breaks, tally-works}

module _ (p : List ℕ) (ok : Accepted p) (s : Central) (good : Good p s) (stuck : Stuck p s) (a : List ℕ) (agree : Agrees p (said p s) a)
    (v : ℕ) (small : v < size p) (st : started s v ≡ true) where
  pub kids : (c : ℕ) → In c (children p v) → started s c ≡ true → ended s c ≡ true
  kids c i sc = all-ended p ok s good stuck c (child-high p v c i) sc

  pub yes-answer : s.answer v ≡ said-yes → get_or a v 0 ≡ 1
  unfolding said said_by is_yes
  yes-answer e = agree.says-yes v (rw e)

  pub no_answer : s.answer v ≡ said-no → get_or a v 0 ≡ 2
  unfolding said said_by is_no
  no_answer e = agree.says-no v (rw e)

  -- the answer is the place of the picked child
  pick-answer : (c : ℕ) → In c (children p v) → s.picked c ≡ true → get_or a v 0 ≡ suc (length (earlier (children p v) c))
  unfolding said said_by place_of
  pick-answer c i k = subst (λ (u : ℕ). get_or a u 0 ≡ suc (length (earlier (children p u) c))) (child-of p v i).of (agree.picks c k)

  -- a child is started if and only if its place is reached
  place-reached : (c : ℕ) → In c (children p v) → started s c ≡ reached_by (kind p v) s v (children p v) c
  place-reached c i = same_bool _ _ (λ h. (child-placed p s good v c i h).1) (starts p ok s stuck v c i st)

  -- c stands behind the children ds
  module _ (ds : List ℕ) (c : ℕ) (cs : List ℕ) (split : children p v ≡ ds ++ (c ∷ cs)) where
    here_in : In c (children p v)
    here_in = rw split (in_right ds (here refl))

    before : earlier (children p v) c ≡ ds
    before = rw split (earlier-split ds c cs (rw split at (rising-children p v)))

    before-in : (d : ℕ) → In d ds → In d (children p v) × (d < c)
    before-in d i = earlier-in (children p v) c (rw before i)

    in-before : (d : ℕ) → In d (children p v) → d < c → In d ds
    in-before d i l = rw before at (in-earlier i l)

    -- an xor's answer is the place of the child that committed
    pick-place : kind p v ≡ xor → (s.mark c ≡ committed) ⊎ (s.mark c ≡ turned_down) → eqb (suc (length ds)) (get_or a v 0) ≡ marked s committed c
    unfolding said said_by is_kind kind_number is_mark mark_number
    pick-place k q = cases q
        (λ e. rw (e, pick-answer c here_in (good.commit-picked c (child-xor p v c here_in ∙ rw k) (rw e)), before) (eq-eqb (suc (length ds)) (suc (length ds)) refl))
        (λ e. rw e (ne_eqb (suc (length ds)) (get_or a v 0) (other e)))
      where
        other : s.mark c ≡ turned_down → suc (length ds) ≡ get_or a v 0 → ⊥
        other e h =
            let r = down-picked p s good v c here_in (rw e) in
            let b = ap length before in
            let f = pick-answer r.0 r.1 r.2 in
            let same : c ≡ r.0 = place-injective (children p v) c r.0 here_in r.1 (omega arith) in
            clash _ (rw (← same) at (picked-committed p ok s good stuck v small st kids r.0 r.1 r.2)) (rw e)

    module _ (m : List ℕ) (t : Walked) (i : Tallied p s v ds m t) where
      goes-serial : kind p v ≡ serial → not t.tally.broke ≡ started s c
      unfolding reached_by
      goes-serial k = rw (i.broke, place-reached c here_in, k, before) (same_bool _ _
          (λ h. all-by (marked s committed) ds (λ d j. let b = before-in d j in
          serial-chain p ok s good stuck v small st kids k c (λ e g l. any_none (marked s failed) (in-before e g l) (not-true _ h)) d b.0 b.1))
          (λ h. ap not (no_bool _ (λ f. let r = any_at (marked s failed) ds f in
          clash _ r.2 (commit-not-failed (s.mark r.0) (all-at (marked s committed) r.1 h))))))

      goes-contingency : kind p v ≡ contingency → not t.tally.worked ≡ started s c
      unfolding reached_by
      goes-contingency k = rw (i.worked, place-reached c here_in, k, before) (same_bool _ _
          (λ h. all-by (marked s failed) ds (λ d j. let b = before-in d j in
          contingency-chain p ok s good stuck v small st kids k c
          (λ e g l. no_bool _ (λ w. clash _ (commit-worked (s.mark e) w) (any_none (λ d. is_worked (s.mark d)) (in-before e g l) (not-true _ h)))) d b.0 b.1))
          (λ h. ap not (no_bool _ (λ f. let r = any_at (λ d. is_worked (s.mark d)) ds f in
          clash _ r.2 (failed-not-worked (s.mark r.0) (all-at (marked s failed) r.1 h))))))

      goes-conditional : kind p v ≡ conditional → cond (eqb t.tally.places 0) (eqb (get_or a v 0) 1) (eqb (get_or a v 0) 2) ≡ started s c
      unfolding reached_by is_yes is_no earlier
      goes-conditional k =
          let e : any (λ d. ltb d c) (children p v) ≡ not (eqb (length ds) 0) = any-keep (λ d. ltb d c) (children p v) ∙ ap (λ (l : List ℕ). not (eqb (length l) 0)) before in
          rw (i.places, place-reached c here_in, k, e)
          (cases (is-answered p ok s stuck v small k st)
          (λ q. rw (yes-answer q, q) (flip (eqb (length ds) 0) true false))
          (λ q. rw (no_answer q, q) (flip (eqb (length ds) 0) false true)))
        where
          flip : (b x y : Bool) → cond b x y ≡ cond (not b) y x
          flip true x y = refl
          flip false x y = refl

      goes-kind : (k : Kind) → kind p v ≡ k → goes_by k (get_or a v 0) t.tally ≡ started s c
      unfolding goes_by reached_by
      goes-kind task k = absurd (let some = in_some here_in in omega (arith, ap length (ok.tasks v small k)))
      goes-kind serial k = goes-serial k
      goes-kind and k = sym (all_start p ok s good stuck v small st kids (λ d. rw k) c here_in)
      goes-kind or k = sym (all_start p ok s good stuck v small st kids (λ d. rw k) c here_in)
      goes-kind xor k = sym (all_start p ok s good stuck v small st kids (λ d. rw k) c here_in)
      goes-kind contingency k = goes-contingency k
      goes-kind conditional k = goes-conditional k
      goes-kind waiting k = sym (all_start p ok s good stuck v small st kids (λ d. rw k) c here_in)

      goes-right : goes (kind p v) (get_or a v 0) t.tally ≡ started s c
      unfolding goes
      goes-right = ap (λ w. eqb w 0 && goes_by (kind p v) (get_or a v 0) t.tally) i.sound ∙ goes-kind (kind p v) refl

      -- the mark of a child that works
      mark-right : (s.mark c ≡ committed) ⊎ (s.mark c ≡ turned_down) →
          good_mark (kind p v) (get_or a v 0) (suc t.tally.places) ≡ mark_number (s.mark c)
      unfolding good_mark mark_number is_mark
      mark-right q = rw i.places (cases (decided (is_kind xor (kind p v)))
          (λ x. rw (x, pick-place (same_kind xor (kind p v) x) q) (cases q (λ e. rw e) (λ e. rw e)))
          (λ x. rw x (cases q (λ e. rw e) (λ e. clash _ (down-xor p s good c (rw e)) (child-xor p v c here_in ∙ x)))))

      module _ (f : ℕ → List ℕ → Settled) (y : started s c ≡ true → Settles p s c t.marks (f c t.marks)) where
        turn : Tallied p s v (ds ++ (c ∷ [])) m (meet f (kind p v) (get_or a v 0) t c)
        unfolding meet meet_by child_settled child_mark outcome_of is_mark mark_number
        turn = cases (decided (started s c))
            (λ x. cases (decided (marked s failed c))
            (λ e. let q = mark-is failed (s.mark c) e in
            rw (goes-right ∙ x, (y x).outcome, e) (tally-breaks p ok s good v c ds m t i (f c t.marks) (y x) (child-high p v c here_in) 4 (rw q) (get_or a v 0) q))
            (λ e. let q = ended-well s c (kids c here_in x) e in
            rw (goes-right ∙ x, (y x).outcome, e)
            (tally-works p ok s good v c ds m t i (f c t.marks) (y x) (child-high p v c here_in) _ (mark-right q) (get_or a v 0) q (λ k. pick-place k q))))
            (λ x. rw (goes-right ∙ x) (tally-skip p ok s good v c ds m t i x))

  -- all children from cs on
  turns : (f : ℕ → List ℕ → Settled) (m : List ℕ) →
      ((c : ℕ) → In c (children p v) → (n : List ℕ) → length n ≡ size p → started s c ≡ true → Settles p s c n (f c n)) →
      (ds cs : List ℕ) (t : Walked) → children p v ≡ ds ++ cs → Tallied p s v ds m t →
      Tallied p s v (children p v) m (walk f (kind p v) (get_or a v 0) cs t)
  unfolding walk
  turns f m y ds [] t split i = rw (split, append-nil) i
  turns f m y ds (c ∷ cs) t split i =
      turns f m y (ds ++ (c ∷ [])) cs (meet f (kind p v) (get_or a v 0) t c) (split ∙ sym (append_assoc ds (c ∷ []) cs))
      (turn ds c cs split m t i f (y c (here_in ds c cs split) t.marks i.long))

  pub all-turns : (f : ℕ → List ℕ → Settled) (m : List ℕ) → length m ≡ size p →
      ((c : ℕ) → In c (children p v) → (n : List ℕ) → length n ≡ size p → started s c ≡ true → Settles p s c n (f c n)) →
      Tallied p s v (children p v) m (walk f (kind p v) (get_or a v 0) (children p v) (unwalked m))
  all-turns f m l y = turns f m y [] (children p v) (unwalked m) refl (tally-none p ok s good v m l)
