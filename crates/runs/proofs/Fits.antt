-- Demand 2: an event passes by bars and guard just where the central rule allows it. Assumes nothing.
use mathlib.Core.Path.{◌≡◌, refl, sym, ◌∙◌, ap, fun_ext}
use mathlib.Core.Bool.{Bool, true, false, not, ◌&&◌, ◌||◌, cond, not-not, and-false, and-true, or-false}
use mathlib.Core.List.{List, map}
use Prim.Native.Nat.{ℕ, ◌<◌}
use lib.Dec.{eqb, ltb}
use lib.ListN.{length}
use borrow.Author.Tests.{eqb-false, lt-ltb, ltb-true}
use native.Mathlib.Omega.{arith}
use Rattle.lists.specs.Seq.{all, any, earlier}
use Rattle.lists.specs.Member.{In}
use Rattle.lists.proofs.Logic.{cases, no_bool, parts, clash}
use Rattle.lists.proofs.Members.{any-by, any_at, any-map, in_some}
use Rattle.plan.specs.Plan.{kind_number, is_kind, size, kind, parent, children, others, above, in_xor}
use Rattle.plan.specs.declared.kinds.Kind.{Kind}
use Rattle.plan.specs.declared.kinds.Kind.TheVariants.{Task as task, Serial as serial, And as and, Or as or, Xor as xor, Contingency as contingency, Conditional as conditional, Waiting as waiting}
use Rattle.plan.specs.Check.{Accepted}
use Rattle.plan.proofs.PlanLaws.{rising-children, child-in}
use Rattle.event.specs.Event.{Code, start, offer, commit, abort, answered-yes, answered-no, pick, down, at, applies_by, applies}
use Rattle.guard.specs.Guard.{Guard, one, before_in, is_first, start_by, finish_by, abort_by, finishing, aborting, guard_by, guard, holds, bars_by, bars, barred}
use Rattle.central.specs.Mark.{idle, running, offered, committed, failed}
use Rattle.central.specs.Central.{Central, fresh, is_yes, is_no, marked, started, reached_by, may_start, of_branch, finishes_by, fails_by, allowed_by, allowed, reaches}
use Rattle.runs.specs.Claims.{GuardsFollowRule}
use Rattle.runs.proofs.Said.{said_by, said, happened}
use Rattle.runs.proofs.Family.{first-least, before_of, chain-last, chain-before, first-none, not-task, task-or-not}
use Rattle.runs.proofs.Good.{Good, good-run}
use Rattle.runs.proofs.BarLaws.{end_by_lem, offer-bar, commit-bar, abort-bar, picked-by, pick-by, down_by, answer-by}
use Rattle.runs.proofs.GuardLaws.{holds-one, holds-two, holds-cond, finish-and, finish-waiting, finish-or, finish-xor, finish-contingency, abort-serial, abort-and, abort-waiting, abort-or, abort-xor, finish-shown, abort-shown, branch-only}
use Rattle.runs.proofs.Facts.{commit-started, abort-started, child-placed, commit-chain, abort-chain, offered-xor, no_other, picked-mark, some-picked}

absorb : (x y : Bool) → (x ≡ true → y ≡ true) → x ≡ (y && x)
absorb true y h = rw (h refl)
absorb false y h = sym (and-false y)

module _ (p : List ℕ) (ok : Accepted p) (s : Central) (good : Good p s) where
  -- only a started node has a guard for its end that holds: a task's is its own start, a block's shows a child that has ended
  end-started : (v : ℕ) (g : Kind → Guard) → g task ≡ one start v →
      ((kind p v ≡ task → ⊥) → (c : ℕ) × In c (children p v) × (started s c ≡ true)) → holds (said p s) (g (kind p v)) ≡ true → started s v ≡ true
  unfolding holds any all said said_by
  end-started v g t shown h = cases (task-or-not (kind p v))
      (λ q. simp (or-false, and-true) at (rw (q, t) at h))
      (λ n. let w = shown n in (child-placed p s good v w.0 w.1 w.2).0)

  finish-started : (v : ℕ) → v < size p → holds (said p s) (finishing p v) ≡ true → started s v ≡ true
  unfolding finishing finish_by said said_by
  finish-started v l h = end-started v (λ k. finish_by k v (children p v)) refl
      (λ n. let w = finish-shown (said p s) v (children p v) (ok.blocks v l n) (kind p v) n h in (w.0, w.1, commit-started p s w.0 w.2)) h

  aborting-started : (v : ℕ) → v < size p → holds (said p s) (aborting p v) ≡ true → started s v ≡ true
  unfolding aborting abort_by said said_by
  aborting-started v l h = end-started v (λ k. abort_by k v (children p v)) refl
      (λ n. let w = abort-shown (said p s) v (children p v) (ok.blocks v l n) (kind p v) n h in (w.0, w.1, abort-started p s w.0 w.2)) h

  -- the guard of a started node's end is the central rule's test
  module _ (v : ℕ) (l : v < size p) where
    some_block : {k : Kind} → kind p v ≡ k → is_kind task k ≡ false → 0 < length (children p v)
    some_block {k} q h = ok.blocks v l (λ r. not-task k h (sym q ∙ r))

    -- a conditional's two children: only the one of its branch has started
    pub by-branch : (f : ℕ → Bool) → ((c : ℕ) → f c ≡ true → started s c ≡ true) → kind p v ≡ conditional →
        any f (children p v) ≡ of_branch f (s.answer v) (children p v)
    unfolding reached_by
    by-branch f st q =
        branch-only f (children p v) (s.answer v) (rising-children p v) (ok.two v l q)
        (λ c i h. rw q at (child-placed p s good v c i (st c h)).1)

    finish-fits : started s v ≡ true → holds (said p s) (finishing p v) ≡ finishes_by (kind p v) s v (children p v)
    unfolding is_kind kind_number finishing holds finish_by finishes_by any all said said_by
    finish-fits h = go (kind p v) refl
      where
        go : (k : Kind) → kind p v ≡ k → holds (said p s) (finish_by k v (children p v)) ≡ finishes_by k s v (children p v)
        go task q = rw h
        go serial q = simp (or-false, and-true)
            (chain-last (marked s committed) (children p v) (rising-children p v) (commit-chain p s good v q) v (some_block q refl))
        go and q = finish-and p s v (children p v)
        go or q = finish-or p s v (children p v)
        go xor q = finish-xor p s v (children p v)
        go contingency q = finish-contingency p s v (children p v)
        go conditional q = simp (any-map, and-true) (by-branch (marked s committed) (commit-started p s) q)
        go waiting q = finish-waiting p s v (children p v)

    abort-fits : started s v ≡ true → holds (said p s) (aborting p v) ≡ fails_by (kind p v) s v (children p v)
    unfolding is_kind kind_number aborting holds abort_by fails_by any all said said_by
    abort-fits h = go (kind p v) refl
      where
        go : (k : Kind) → kind p v ≡ k → holds (said p s) (abort_by k v (children p v)) ≡ fails_by k s v (children p v)
        go task q = rw h
        go serial q = abort-serial p s v (children p v)
        go and q = abort-and p s v (children p v)
        go or q = abort-or p s v (children p v)
        go xor q = abort-xor p s v (children p v)
        go contingency q = simp (or-false, and-true)
            (chain-last (marked s failed) (children p v) (rising-children p v) (abort-chain p s good v q) v (some_block q refl))
        go conditional q = simp (any-map, and-true) (by-branch (marked s failed) (abort-started p s) q)
        go waiting q = abort-waiting p s v (children p v)

  -- the guard of a start is the central rule's test
  start_fits : (v : ℕ) → v < size p → holds (said p s) (guard_by p start v) ≡ may_start p s v
  unfolding guard_by may_start above holds start_by all any reached_by said said_by
  start_fits v l = go (eqb v 0) refl
    where
      u : ℕ
      u = parent p v

      cs : List ℕ
      cs = children p u

      in_order : (H : ℕ → Bool) → ((c : ℕ) → In c cs → H c ≡ true → all H (earlier cs c) ≡ true) → ((c : ℕ) → In c cs → H c ≡ true → started s u ≡ true) →
          In v cs → (b : Bool) → is_first cs v ≡ b → cond b (started s u) (H (before_in v cs v)) ≡ (started s u && all H (earlier cs v))
      in_order H chain up i true e = rw (first-none H cs v (rising-children p u) e, and-true)
      in_order H chain up i false e =
          let b = before_of (rising-children p u) i e in
          rw (← (chain-before H cs (rising-children p u) chain v i e)) (absorb (H (before_in v cs v)) (started s u) (up (before_in v cs v) b.member))

      by_answer : In v cs → (b : Bool) → is_first cs v ≡ b →
          cond b (is_yes (s.answer u)) (is_no (s.answer u)) ≡ (started s u && cond (any (λ c. ltb c v) cs) (is_no (s.answer u)) (is_yes (s.answer u)))
      by_answer i true e =
          rw (no_bool (any (λ c. ltb c v) cs) (λ h. let r = any_at (λ c. ltb c v) cs h in let k = first-least (rising-children p u) e r.1 in let m = ltb-true r.0 v r.2 in omega arith))
          (absorb (is_yes (s.answer u)) (started s u) (good.yes-started u))
      by_answer i false e =
          let b = before_of (rising-children p u) i e in
          rw (any-by (λ c. ltb c v) b.member (lt-ltb (before_in v cs v) v b.less))
          (absorb (is_no (s.answer u)) (started s u) (good.no-started u))

      by_kind : (k : Kind) → kind p u ≡ k → In v cs → u < size p →
          holds (said p s) (start_by k u cs v) ≡ (started s u && reached_by k s u cs v)
      by_kind task q i m = absurd (let some = in_some i in omega (arith, ap length (ok.tasks u m q)))
      by_kind serial q i m =
          holds-cond (said p s) (is_first cs v) (at start u) (at commit (before_in v cs v))
          ∙ in_order (marked s committed) (commit-chain p s good u q) (λ c j h. (child-placed p s good u c j (commit-started p s c h)).0)
          i (is_first cs v) refl
      by_kind and q i m = simp (or-false, and-true)
      by_kind or q i m = simp (or-false, and-true)
      by_kind xor q i m = simp (or-false, and-true)
      by_kind contingency q i m =
          holds-cond (said p s) (is_first cs v) (at start u) (at abort (before_in v cs v))
          ∙ in_order (marked s failed) (abort-chain p s good u q) (λ c j h. (child-placed p s good u c j (abort-started p s c h)).0)
          i (is_first cs v) refl
      by_kind conditional q i m =
          holds-cond (said p s) (is_first cs v) (at answered-yes u) (at answered-no u) ∙ by_answer i (is_first cs v) refl
      by_kind waiting q i m = simp (or-false, and-true)

      go : (b : Bool) → eqb v 0 ≡ b → holds (said p s) (start_by (cond b task (kind p u)) u cs v) ≡ cond b true (started s u && reached_by (cond b task (kind p u)) s u cs v)
      go true e = refl
      go false e =
          let n = eqb-false v 0 e in
          let h = ok.below v (omega arith) l in
          by_kind (kind p u) refl (child-in p u (record { low = omega arith; high = l; of = refl })) (omega arith)

  commit-fits : (v : ℕ) → v < size p → (x : Bool) → in_xor p v ≡ x →
      (not (marked s committed v || (marked s failed v || false)) && holds (said p s) (cond x (one pick v) (finishing p v)))
      ≡ cond x (marked s offered v && s.picked v) (marked s running v && finishes_by (kind p v) s v (children p v))
  unfolding said said_by
  commit-fits v l true x = rw (holds-one (said p s) (at pick v)) (picked-by (s.picked v) (s.mark v) (picked-mark p s good v))
  commit-fits v l false x =
      end_by_lem _ (holds (said p s) (finishing p v)) _ (s.mark v) (commit-bar (s.mark v) (λ h. clash _ (offered-xor p s good v h) x))
      (finish-started v l) (finish-fits v l)

  -- the bars and the guard of an event against the central rule, code by code
  fits-at : (c : Code) (v : ℕ) → v < size p → applies_by c (kind p v) (in_xor p v) ≡ true →
      (not (barred p (said p s) (at c v)) && holds (said p s) (guard p (at c v))) ≡ allowed_by p s c v
  unfolding barred bars bars_by guard guard_by allowed_by applies_by any said said_by
  fits-at start v l a = simp (or-false, not-not) (ap (λ (b : Bool). marked s idle v && b) (start_fits v l))
  fits-at offer v l a = rw a (end_by_lem _ (holds (said p s) (finishing p v)) _ (s.mark v) (offer-bar (s.mark v)) (finish-started v l) (finish-fits v l))
  fits-at commit v l a = commit-fits v l (in_xor p v) refl
  fits-at abort v l a = end_by_lem _ (holds (said p s) (aborting p v)) _ (s.mark v) (abort-bar (in_xor p v) (s.mark v)) (aborting-started v l) (abort-fits v l)
  fits-at answered-yes v l a = rw (holds-one (said p s) (at start v)) (answer-by (is_yes (s.answer v)) (is_no (s.answer v)) (started s v))
  fits-at answered-no v l a = rw (holds-one (said p s) (at start v)) (answer-by (is_yes (s.answer v)) (is_no (s.answer v)) (started s v))
  fits-at pick v l a =
      rw (any-map (said p s) (at pick) (children p (parent p v)), holds-one (said p s) (at offer v), a)
      (pick-by (any s.picked (children p (parent p v))) (s.mark v) (some-picked p s good v a l))
  fits-at down v l a =
      rw (holds-two (said p s) (at offer v) (map (at pick) (others p v)), any-map (said p s) (at pick) (others p v), a)
      (down_by (any s.picked (others p v)) (s.mark v) (λ c. no_bool _ (no_other p s good v (good.commit-picked v a c))))

pub guards-follow : GuardsFollowRule
unfolding allowed applies
guards-follow p ok es h heard is e a =
    rw (fun_ext is, happened p es h, a)
    (fits-at p ok (reaches fresh es) (good-run p es h) e.code e.node (ltb-true e.node (size p) (search parts)) (search parts))
