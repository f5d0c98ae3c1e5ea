-- The claim of specs/Hosts.antt, field by field: the hosts have the simulation's rows and events, of which crate job has the claim. Assumes nothing.
use mathlib.Core.Path.{◌≡◌, sym, ◌∙◌, ap}
use mathlib.Core.Bool.{true, not}
use mathlib.Core.List.{List, [], map}
use mathlib.Core.Logic.{⊎_elim}
use Prim.Native.Nat.{ℕ, ◌<◌}
use lib.Dec.{eqb}
use borrow.Author.Tests.{eq-eqb, eqb-true, not-true}
use Rattle.lists.specs.Seq.{table}
use Rattle.lists.proofs.Logic.{no_bool, and_left, and_right, parts, clash}
use Rattle.lists.proofs.Table.{table-length, table_at, table-by}
use Rattle.plan.specs.Plan.{size}
use Rattle.plan.specs.Check.{Accepted}
use Rattle.event.specs.Event.{code_number, Event, among, applies}
use Rattle.event.specs.Site.{Layout, Housed, site_of}
use Rattle.guard.specs.Guard.{barred}
use Rattle.central.specs.Mark.{mark_number}
use Rattle.central.specs.Central.{fresh, allowed, is_run, reaches}
use Rattle.pass.specs.Pass.{pass}
use Rattle.row.specs.Row.{heard}
use Rattle.site.specs.Step.{step_invalid, site_at}
use Rattle.site.proofs.StepLaws.{step-tested, step-passes, number-any-site}
use Rattle.lists.specs.Bytes.{Bytes}
use Rattle.runs.specs.Agree.{Agrees}
use Rattle.runs.specs.Claims.{Stuck}
use Rattle.runs.proofs.Full.{site-in}
use Rattle.runs.proofs.Main.{stuck-is-pass}
use Rattle.job.specs.Simulation.{row_of, Step, zeros, replay, passed, mark_by, mark_at}
use Rattle.job.specs.Claim.{row_at, central_after, Informed, Over, Claim}
use Rattle.job.proofs.Bridge.{event-back}
use Rattle.job.proofs.Main.{demand3}
use Rattle.hosts.specs.Hosts.{fresh_rows, Action, try_number, step_for, rows_after, action_numbers, happened, keeps_rules, Covered, host_mark, host_marks, HostsOver, Followed, HostClaim}
use Rattle.hosts.proofs.Covers.{alike-fresh, covers, actions_from, follow}

module _ (p : List ℕ) (ok : Accepted p) (lay : Layout) (housed : Housed p lay) where
  job : Claim p lay
  job = demand3 p ok lay housed

  covered : (xs : List Action) → keeps_rules p lay xs ≡ true → Covered p lay xs
  unfolding keeps_rules rows_after action_numbers happened replay passed
  covered xs kept =
      let c = covers p ok lay housed [] (fresh_rows p) (zeros p lay) (alike-fresh p ok lay housed) xs kept in
      record { rows = c.same; numbers = c.numbers; events = c.events }

  module _ (xs : List Action) (kept : keeps_rules p lay xs ≡ true) where
    steps : List Step
    steps = map step_for xs

    row_is : (q : ℕ) → q < lay.rows → rows_after p xs q ≡ row_of p (replay p lay steps) q
    unfolding steps
    row_is = (covered xs kept).rows

    events-are : happened p xs ≡ passed p lay steps
    unfolding steps
    events-are = (covered xs kept).events

    run_is : is_run p (happened p xs) ≡ true
    run_is = rw events-are (job.run steps)

    mark-is : (v : ℕ) → v < size p → host_mark lay (rows_after p xs) v ≡ (reaches fresh (happened p xs)).mark v
    unfolding host_mark mark_at central_after
    mark-is v l =
        ap (λ (w : List ℕ). mark_by (heard w) v) (row_is (lay.home v) (housed v l))
        ∙ job.mark steps v l
        ∙ ap (λ (es : List Event). (reaches fresh es).mark v) (sym events-are)

    module _ (over : HostsOver p lay xs) where
      informed : (q : ℕ) → q < lay.rows → Informed p lay steps q
      informed q l e k =
          sym (job.set-if-heard steps q l e)
          ∙ ap (λ (w : List ℕ). heard w e) (sym (row_is q l))
          ∙ over.informed q l e (ap (λ (es : List Event). among es e) events-are ∙ k)

      -- an event that the central rule allows would pass at its site
      stuck : Stuck p (reaches fresh (happened p xs))
      unfolding allowed try_number row_at central_after
      stuck e = no_bool (allowed p (reaches fresh (happened p xs)) e) (λ k.
          let a : applies p e ≡ true = search parts in
          let l = site-in p ok lay housed e a in
          over.still e (ap (try_number p (code_number e.code) e.node) (row_is (site_of p lay e) l)
          ∙ number-any-site p (site_at p (code_number e.code) e.node) (site_of p lay e) (code_number e.code) e.node (row_of p (replay p lay steps) (site_of p lay e))
          ∙ (job.faithful steps e (informed (site_of p lay e) l)).1 (rw events-are at k)))

      pass-is : (a : List ℕ) → Bytes (size p) a → Agrees p (among (happened p xs)) a → pass p a ≡ record { number = 0; marks = host_marks p lay (rows_after p xs) }
      unfolding host_marks
      pass-is a bytes agree =
          let f : ℕ → ℕ = λ v. mark_number ((reaches fresh (happened p xs)).mark v) in
          let g : ℕ → ℕ = λ v. mark_number (host_mark lay (rows_after p xs) v) in
          stuck-is-pass p ok (happened p xs) run_is stuck a bytes agree
          ∙ ap (λ (m : List ℕ). record { number = 0; marks = m })
          (table-by g (size p) (table f (size p)) (table-length f (size p)) (λ v l. table_at f (size p) v l ∙ ap mark_number (sym (mark-is v l))))

  follows : (ts : List Step) → Followed p lay ts
  unfolding keeps_rules rows_after happened replay passed
  follows ts =
      let r = follow p ok lay housed [] (fresh_rows p) (zeros p lay) (alike-fresh p ok lay housed) ts in
      record { actions = actions_from p ok lay housed (zeros p lay) ts; kept = r.kept; events = r.events; rows = r.same }

  -- hosts that follow a job to its end are at theirs
  module _ (ts : List Step) (over : Over p lay ts) (w : Followed p lay ts) where
    over-still : (e : Event) → try_number p (code_number e.code) e.node (rows_after p w.actions (site_of p lay e)) ≡ 0 → ⊥
    unfolding try_number row_at
    over-still e z =
        let row : List ℕ = rows_after p w.actions (site_of p lay e) in
        let k = sym (step-passes p (site_at p (code_number e.code) e.node) (code_number e.code) e.node row) ∙ eq-eqb _ 0 z in
        let v = eqb-true (step_invalid p (code_number e.code) e.node row) 0 (and_left _ _ k) in
        let a : applies p e ≡ true = ap (applies p) (sym (event-back e)) ∙ (step-tested p _ e.node row v).applied in
        let r = w.rows (site_of p lay e) (site-in p ok lay housed e a) in
        let d = rw (event-back e, r) at (and_right (eqb (step_invalid p (code_number e.code) e.node row) 0) _ k) in
        ⊎_elim (λ b. clash _ b (not-true _ (and_left _ _ d))) (λ g. clash _ (and_right (not (barred p _ e)) _ d) g) (over.still e a)

    over-hosts : HostsOver p lay w.actions
    over-hosts = record {
      informed = λ q l e k. rw (w.rows q l) (job.set-if-heard ts q l e ∙ over.informed q l e (ap (λ (es : List Event). among es e) (sym w.events) ∙ k));
      still = over-still;
    }

  pub claim : HostClaim p lay
  claim = record {
    covered = covered;
    run = run_is;
    mark = mark-is;
    same-marks = pass-is;
    follows = follows;
    ends = λ es h.
        let r = job.ends es h in
        let w = follows r.1 in
        (r.0, w.actions, w.kept, w.events ∙ r.2, over-hosts r.1 r.3 w);
  }
