-- One desk for all nodes (rule N10): whatever passed is heard there, so the desk follows the central rule. Assumes nothing.
use mathlib.Core.Path.{◌≡◌, refl, sym, ◌∙◌, ap}
use mathlib.Core.Bool.{true}
use mathlib.Core.List.{List}
use mathlib.Core.Logic.{◌↔◌}
use Prim.Native.Nat.{ℕ, ◌*◌, ◌<◌}
use lib.ListN.{length}
use Rattle.lists.proofs.Logic.{and_left, and-join}
use Rattle.event.specs.Event.{code_number, Event, among, applies, known}
use Rattle.event.specs.Site.{host_of, site_of}
use Rattle.event.specs.Valid.{event_fault}
use Rattle.event.proofs.CodeLaws.{code_is}
use Rattle.event.proofs.ValidLaws.{fault-none, valid}
use Rattle.event.proofs.HostLaws.{host-in}
use Rattle.central.specs.Central.{allowed}
use Rattle.site.specs.Verdict.{verdict_number}
use Rattle.site.specs.Step.{step_at}
use Rattle.site.proofs.StepLaws.{number-any-site}
use Rattle.runs.proofs.Said.{history}
use Rattle.runs.proofs.Good.{good-run}
use Rattle.job.specs.Simulation.{row_of, Step, step_by, Simulated, state_fits, simulate, replay, passed}
use Rattle.job.specs.Claim.{row_at, central_after, Informed, Claim}
use Rattle.job.proofs.Bridge.{event-back}
use Rattle.job.proofs.Main.{demand3}
use Rattle.journal.specs.Journal.{step_on}
use Rattle.journal.proofs.UndoLaws.{happen-valid}
use Rattle.desks.specs.Desk.{nodes, desk_of, plain, DeskAccepted, desk_rows, desk_row, desk_layout}
use Rattle.desks.specs.Calls.{own_desk, desk_simulate_of}
use Rattle.desks.proofs.DeskLaws.{same_nodes, housed}
use Rattle.desks.proofs.CallLaws.{at_once, call-number, step-number, own-site, event-at}

module _ (p : List ℕ) (ok : DeskAccepted p) where
  claim : Claim (plain p) (desk_layout p)
  claim = demand3 (plain p) ok.accepted (desk_layout p) (housed p ok)

  module _ (ts : List Step) (e : Event) where
    abbrev st : List ℕ
    st = replay (plain p) (desk_layout p) ts

    abbrev number_at : ℕ
    number_at = verdict_number (desk_simulate_of p (code_number e.code) e.node 255 st).verdict

    long : length st ≡ desk_rows p * nodes p
    unfolding desk_layout
    long = rw (same_nodes p) at (claim.state ts).long

    -- an event that applies has the number of its row's step
    fine : applies (plain p) e ≡ true → event_fault (plain p) true (code_number e.code) e.node ≡ 0
    unfolding known applies
    fine a =
        fault-none (plain p) true (code_number e.code) e.node refl (and-join _ _ (code_is e.code) (and_left _ _ a)) (ap (applies (plain p)) (event-back e) ∙ a)

    number-applied : applies (plain p) e ≡ true →
        number_at ≡ verdict_number (step_at (plain p) (site_of (plain p) (desk_layout p) e) (code_number e.code) e.node (row_at (plain p) (desk_layout p) ts e)).verdict
    unfolding row_at
    number-applied a =
        let code : ℕ = code_number e.code in
        let q : site_of (plain p) (desk_layout p) e ≡ desk_row p (own_desk p code e.node) = sym (ap (site_of (plain p) (desk_layout p)) (event-back e)) ∙ own-site p ok code e.node in
        let row : List ℕ = row_of (plain p) st (desk_row p (own_desk p code e.node)) in
        rw q (ap (λ (s : Simulated). verdict_number s.verdict) (event-at p ok code e.node st long (fine a))
        ∙ step-number p ok code e.node row
        ∙ number-any-site (plain p) _ _ code e.node row)

    -- any other passes nowhere
    number-off : number_at ≡ 0 → applies (plain p) e ≡ true
    unfolding step_on step_by simulate
    number-off z =
        let code : ℕ = code_number e.code in
        let h = happen-valid (plain p) (desk_layout p) st code e.node (sym (call-number p ok code e.node 255 st) ∙ z) in
        ap (applies (plain p)) (sym (event-back e)) ∙ (valid (plain p) (state_fits (plain p) (desk_layout p) st) true code e.node h).applied

    -- what passed is an event of the plan
    passed-applied : (f : Event) → among (passed (plain p) (desk_layout p) ts) f ≡ true → applies (plain p) f ≡ true
    passed-applied f h =
        let es : List Event = passed (plain p) (desk_layout p) ts in
        (good-run (plain p) es (claim.run ts)).known f (sym (history (plain p) es f (claim.run ts)) ∙ h)

  module _ (d : ℕ) (one : (v : ℕ) → v < nodes p → desk_of p v ≡ d) where
    site-one : (e : Event) → applies (plain p) e ≡ true → site_of (plain p) (desk_layout p) e ≡ desk_row p d
    unfolding site_of desk_layout
    site-one e a = ap (desk_row p) (one (host_of (plain p) e) (rw (same_nodes p) at (host-in (plain p) ok.accepted e a)))

    informed : (ts : List Step) (e : Event) → applies (plain p) e ≡ true → Informed (plain p) (desk_layout p) ts (site_of (plain p) (desk_layout p) e)
    informed ts e a f h = let q = site-one e a ∙ sym (site-one f (passed-applied ts e f h)) in rw q (at_once (plain p) (desk_layout p) ts f h)

    pub one_follows : (ts : List Step) (e : Event) → (number_at ts e ≡ 0) ↔ (allowed (plain p) (central_after (plain p) (desk_layout p) ts) e ≡ true)
    unfolding allowed
    one_follows ts e = (
      λ z. let a = number-off ts e z in (claim.faithful ts e (informed ts e a)).0 (sym (number-applied ts e a) ∙ z),
      λ h. let a = and_left _ _ h in number-applied ts e a ∙ (claim.faithful ts e (informed ts e a)).1 h,
    )
