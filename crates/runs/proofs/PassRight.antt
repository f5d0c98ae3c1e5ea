-- A stuck run, and the pass over answers that agree with it, end alike: a node ends in the pass as in the run, by what its children came to.
-- Assumes nothing.
use mathlib.Core.Path.{◌≡◌, refl, sym, ◌∙◌, ap}
use mathlib.Core.Bool.{Bool, true, false, not, cond}
use mathlib.Core.List.{List, [], ◌∷◌}
use mathlib.Core.Logic.{◌⊎◌}
use Prim.Native.Nat.{ℕ, zero, suc, ◌+◌, ◌≤◌, ◌<◌}
use lib.Dec.{eqb}
use lib.ListN.{get_or, get_or-replicate, length, length-replicate, length-set, replicate, set}
use lib.Seq.{get_or-set_other, get_or-set_same}
use borrow.Author.Tests.{eqb-false, eqb-true}
use native.Mathlib.Omega.{arith}
use Rattle.lists.specs.Seq.{all, any, table}
use Rattle.lists.specs.Member.{In}
use Rattle.lists.proofs.Logic.{cases, no_bool, parts, clash, decided}
use Rattle.lists.proofs.Members.{all-at, any_at}
use Rattle.lists.proofs.Table.{table-by}
use Rattle.lists.proofs.Points.{any-grows}
use Rattle.plan.specs.Plan.{kind_number, is_kind, size, kind, children, above, in_xor}
use Rattle.plan.specs.declared.kinds.Kind.{Kind}
use Rattle.plan.specs.declared.kinds.Kind.TheVariants.{Task as task, Serial as serial, And as and, Or as or, Xor as xor, Contingency as contingency, Conditional as conditional, Waiting as waiting}
use Rattle.plan.specs.Check.{Accepted}
use Rattle.plan.proofs.AcceptedLaws.{child-between}
use Rattle.plan.proofs.UnderLaws.{under-below, through, under-root}
use Rattle.central.specs.Mark.{committed, failed, turned_down, mark_number, is_mark}
use Rattle.central.specs.Central.{Answer, none, said-yes, said-no, Central, marked, started, of_branch, finishes_by, fails_by}
use Rattle.pass.specs.Pass.{works, breaks, Settled, Walked, one_or_two, bad_answer, bad_pick, closes, ending, end_of, close, settle_if, settle_by, settle, number_of, root_mark, pass_of, pass}
use Rattle.runs.specs.Agree.{Agrees}
use Rattle.runs.specs.Claims.{Stuck}
use Rattle.runs.proofs.Said.{said_by, said}
use Rattle.runs.proofs.Good.{Good}
use Rattle.runs.proofs.MarkLaws.{mark-is, idle-number, is_worked, commit-worked, commit-not-failed, failed-not-worked, worked-started, worked-said, ended-well, outcome_of, outcome-sound}
use Rattle.runs.proofs.Facts.{commit-started, worked-held, down-xor}
use Rattle.runs.proofs.Fits.{by-branch}
use Rattle.runs.proofs.Stuck.{root-started, is-answered}
use Rattle.runs.proofs.Ended.{picked-committed, all-ended}
use Rattle.runs.proofs.PassTally.{Settles, Tallied}
use Rattle.runs.proofs.PassTurn.{kids, yes-answer, no_answer, all-turns}

ending_at : (w x : ℕ) (b y : Bool) → w ≡ 0 → x ≡ 0 → b ≡ y → ending w x b ≡ cond y works breaks
unfolding ending
ending_at w x b y e h k = rw (e, h, k)

-- where the answered branch is as f, and nothing as f is as g, the branch is not as g
branch-not : (f g : ℕ → Bool) → ((c : ℕ) → f c ≡ true → g c ≡ false) → (t : Answer) (cs : List ℕ) → of_branch f t cs ≡ true → of_branch g t cs ≡ false
unfolding of_branch
branch-not f g h none cs e = refl
branch-not f g h said-yes [] e = refl
branch-not f g h said-yes (a ∷ cs) e = h a e
branch-not f g h said-no [] e = refl
branch-not f g h said-no (a ∷ []) e = refl
branch-not f g h said-no (a ∷ b ∷ cs) e = h b e

module _ (p : List ℕ) (ok : Accepted p) (s : Central) (good : Good p s) (stuck : Stuck p s) (a : List ℕ) (agree : Agrees p (said p s) a)
    (v : ℕ) (small : v < size p) (st : started s v ≡ true) where
  worked-answer : kind p v ≡ task → is_worked (s.mark v) ≡ true → get_or a v 0 ≡ 1
  unfolding said said_by
  worked-answer k h = agree.task-works v k (sym (worked-said (in_xor p v) (s.mark v)) ∙ h)

  failed-answer : kind p v ≡ task → marked s failed v ≡ true → get_or a v 0 ≡ 2
  unfolding said said_by
  failed-answer k h = agree.task-fails v k h

  well : marked s failed v ≡ false → (s.mark v ≡ committed) ⊎ (s.mark v ≡ turned_down)
  well e = ended-well s v (all-ended p ok s good stuck v small st) e

  well-worked : marked s failed v ≡ false → is_worked (s.mark v) ≡ true
  unfolding is_worked is_mark mark_number
  well-worked e = cases (well e) (λ q. rw q) (λ q. rw q)

  -- an xor whose children all failed has picked none
  none-picked : kind p v ≡ xor → all (marked s failed) (children p v) ≡ true → get_or a v 0 ≡ 0
  unfolding said said_by
  none-picked k e = agree.unpicked v k st (no_bool _ (λ x.
      let r = any_at s.picked (children p v) x in
      clash _ (all-at (marked s failed) r.1 e)
      (commit-not-failed (s.mark r.0)
      (picked-committed p ok s good stuck v small st (kids p ok s good stuck a agree v small st) r.0 r.1 r.2))))

  module _ (m : List ℕ) (t : Walked) (i : Tallied p s v (children p v) m t) where
    none-worked : all (marked s failed) (children p v) ≡ true → t.tally.worked ≡ false
    none-worked e = i.worked ∙ no_bool _ (λ x.
        let r = any_at (λ d. is_worked (s.mark d)) (children p v) x in
        clash _ r.2 (failed-not-worked (s.mark r.0) (all-at (marked s failed) r.1 e)))

    branch-failed : kind p v ≡ conditional → of_branch (marked s failed) (s.answer v) (children p v) ≡ true → t.tally.worked ≡ false
    branch-failed k e = i.worked
        ∙ by-branch p ok s good v small (λ d. is_worked (s.mark d)) (λ c. worked-started (s.mark c)) k
        ∙ branch-not (marked s failed) (λ d. is_worked (s.mark d)) (λ c. failed-not-worked (s.mark c)) (s.answer v) (children p v) e

    -- v failed
    fails-right : (k : Kind) → kind p v ≡ k → marked s failed v ≡ true → fails_by k s v (children p v) ≡ true →
        (bad_pick k (get_or a v 0) t.tally ≡ 0) × (closes k (get_or a v 0) t.tally ≡ false)
    unfolding bad_pick closes fails_by
    fails-right task k e h = (refl, rw (failed-answer k e))
    fails-right serial k e h = (refl, ap not (i.broke ∙ h))
    fails-right and k e h = (refl, ap not (i.broke ∙ h))
    fails-right or k e h = (refl, none-worked h)
    fails-right xor k e h = (rw (none-worked h, none-picked k h), none-worked h)
    fails-right contingency k e h = (refl, none-worked h)
    fails-right conditional k e h = (refl, branch-failed k h)
    fails-right waiting k e h = let o : any (marked s failed) (children p v) ≡ true = search parts in (refl, ap not (i.broke ∙ o))

    none-broke : all (marked s committed) (children p v) ≡ true → t.tally.broke ≡ false
    none-broke e = i.broke ∙ no_bool _ (λ x.
        let r = any_at (marked s failed) (children p v) x in
        clash _ r.2 (commit-not-failed (s.mark r.0) (all-at (marked s committed) r.1 e)))

    one-worked : any (marked s committed) (children p v) ≡ true → t.tally.worked ≡ true
    one-worked e = i.worked ∙ any-grows (marked s committed) (λ d. is_worked (s.mark d)) (children p v) (λ c. commit-worked (s.mark c)) e

    -- v finished
    works-right : (k : Kind) → kind p v ≡ k → is_worked (s.mark v) ≡ true → finishes_by k s v (children p v) ≡ true →
        (bad_pick k (get_or a v 0) t.tally ≡ 0) × (closes k (get_or a v 0) t.tally ≡ true)
    unfolding bad_pick closes finishes_by
    works-right task k e h = (refl, rw (worked-answer k e))
    works-right serial k e h = (refl, ap not (none-broke h))
    works-right and k e h = (refl, ap not (none-broke h))
    works-right or k e h = let o : any (marked s committed) (children p v) ≡ true = search parts in (refl, one-worked o)
    works-right xor k e h =
        let o : any (marked s committed) (children p v) ≡ true = search parts in
        (rw (one-worked o, i.chosen k ∙ o), one-worked o)
    works-right contingency k e h = (refl, one-worked h)
    works-right conditional k e h = (refl, one-worked (by-branch p ok s good v small (marked s committed) (commit-started p s) k ∙ h))
    works-right waiting k e h = (refl, ap not (none-broke h))

    close-right : Settles p s v m (close (kind p v) (get_or a v 0) t)
    unfolding close end_of outcome_of said said_by
    close-right = record {
      outcome = cases (decided (marked s failed v))
          (λ e. let r = fails-right (kind p v) refl e (good.abort-held v e) in rw e (ending_at _ _ _ false i.sound r.0 r.1))
          (λ e. let r = works-right (kind p v) refl (well-worked e) (worked-held p s good v (well-worked e)) in
          rw e (ending_at _ _ _ true i.sound r.0 r.1));
      long = i.long;
      kept = i.kept;
      wrote = λ w l sw b. let r = through p ok v w l b in i.wrote r.0 r.1 w l sw r.2;
    }

  answer-right : (k : Kind) → kind p v ≡ k → bad_answer k (get_or a v 0) ≡ 0
  unfolding bad_answer one_or_two
  answer-right task k = cases (decided (marked s failed v)) (λ e. rw (failed-answer k e)) (λ e. rw (worked-answer k (well-worked e)))
  answer-right serial k = refl
  answer-right and k = refl
  answer-right or k = refl
  answer-right xor k = refl
  answer-right contingency k = refl
  answer-right waiting k = refl
  answer-right conditional k = cases (is-answered p ok s stuck v small k st)
      (λ e. rw (yes-answer p ok s good stuck a agree v small st e)) (λ e. rw (no_answer p ok s good stuck a agree v small st e))

  node-right : (f : ℕ → List ℕ → Settled) (m : List ℕ) → length m ≡ size p →
      ((c : ℕ) → In c (children p v) → (n : List ℕ) → length n ≡ size p → started s c ≡ true → Settles p s c n (f c n)) →
      Settles p s v m (settle_by (kind p v) (get_or a v 0) f (children p v) m)
  unfolding settle_by settle_if
  node-right f m l y = rw (answer-right (kind p v) refl) (close-right m _ (all-turns p ok s good stuck a agree v small st f m l y))

module _ (p : List ℕ) (ok : Accepted p) (s : Central) (good : Good p s) (stuck : Stuck p s) (a : List ℕ) (agree : Agrees p (said p s) a) where
  settle-right : (n v : ℕ) (m : List ℕ) → size p ≤ v + n → v < size p → started s v ≡ true → length m ≡ size p → Settles p s v m (settle p a n v m)
  unfolding settle
  settle-right zero v m h l st e = absurd (omega arith)
  settle-right (suc n) v m h l st e =
      node-right p ok s good stuck a agree v l st (λ c m'. settle p a n c m') m e
      (λ c i m' e' sc. let b = child-between p ok v i in settle-right n c m' (omega arith) b.1 sc e')

  zeros : List ℕ
  zeros = replicate (size p) 0

  end : Settled
  end = settle p a (size p) 0 zeros

  root-right : Settles p s 0 zeros end
  unfolding zeros end
  root-right = settle-right (size p) 0 (replicate (size p) 0) (omega arith) ok.some (root-started p ok s stuck) (length-replicate (size p) 0)

  root-mark : root_mark (outcome_of (s.mark 0)) ≡ mark_number (s.mark 0)
  unfolding root_mark outcome_of mark_number is_mark in_xor above is_kind kind_number
  root-mark = cases (decided (marked s failed 0)) (λ e. rw (mark-is failed (s.mark 0) e))
      (λ e. cases (ended-well s 0 (all-ended p ok s good stuck 0 ok.some (root-started p ok s stuck)) e) (λ q. rw q)
      (λ q. clash _ (down-xor p s good 0 (rw q)) refl))

  mark-right : (v : ℕ) → v < size p → get_or (set end.marks 0 (root_mark end.outcome)) v 0 ≡ mark_number (s.mark v)
  unfolding zeros
  mark-right v l = cases (decided (eqb v 0))
      (λ e. rw (eqb-true v 0 e)
      (get_or-set_same end.marks 0 (root_mark end.outcome) 0 (omega (arith, root-right.long, ok.some)) ∙ ap root_mark root-right.outcome ∙ root-mark))
      (λ e. let ne : v ≡ 0 → ⊥ = eqb-false v 0 e in
      get_or-set_other end.marks 0 v (root_mark end.outcome) 0 ne
      ∙ cases (decided (started s v))
      (λ sv. root-right.wrote v l sv (under-below p 0 v (λ q. ne (sym q)) (under-root p ok (suc v) v (omega arith) l)))
      (λ sv. cases (root-right.kept v) (λ x. x ∙ get_or-replicate (size p) v 0 0 l ∙ sym (idle-number (s.mark v) sv)) (λ x. x)))

  pub pass-right : pass p a ≡ record { number = 0; marks = table (λ v. mark_number (s.mark v)) (size p) }
  unfolding pass pass_of end zeros
  pass-right = λ i. record { number = number i; marks = marks i }
    where
      number : number_of end.outcome ≡ 0
      number = ap number_of root-right.outcome ∙ outcome-sound (s.mark 0)

      marks : set end.marks 0 (root_mark end.outcome) ≡ table (λ v. mark_number (s.mark v)) (size p)
      marks = table-by (λ v. mark_number (s.mark v)) (size p) _ (length-set end.marks 0 _ ∙ root-right.long) mark-right
