-- The calls on an accepted plan with desks (rules N4 to N8): what an event is at its desk, a message to that desk, and how a call is a step of a list.
-- Assumes nothing.
use mathlib.Core.Path.{◌≡◌, refl, sym, ◌∙◌, ap}
use mathlib.Core.Bool.{Bool, true, false, or-false, false≢true}
use mathlib.Core.List.{List, [], ◌∷◌}
use mathlib.Core.Logic.{inl, inr}
use Prim.Native.Nat.{ℕ, ◌*◌, ◌≤◌, ◌<◌}
use native.Mathlib.Omega.{arith}
use lib.Dec.{eqb, ltb}
use lib.ListN.{length}
use borrow.Author.Tests.{eq-eqb, ne_eqb, lt-ltb}
use Rattle.lists.specs.Seq.{any}
use Rattle.lists.proofs.Logic.{cases, decided, either}
use Rattle.lists.proofs.Members.{any_append}
use Rattle.plan.proofs.Main.{fit-exact}
use Rattle.event.specs.Event.{Event, event_of, among}
use Rattle.event.specs.Site.{host_of, Layout, site_of}
use Rattle.event.specs.Valid.{event_fault, invalid}
use Rattle.event.proofs.ValidLaws.{invalid-fault, faultless}
use Rattle.event.proofs.HostLaws.{host-in}
use Rattle.guard.specs.Guard.{guard, holds, barred}
use Rattle.row.specs.Row.{heard}
use Rattle.row.proofs.RowLaws.{hear-again}
use Rattle.site.specs.Verdict.{Invalid, Barred, Unmet, Untrue}
use Rattle.site.specs.Verdict.{Verdict}
use Rattle.site.specs.Verdict.{Passed, Heard, Refused}
use Rattle.site.specs.Verdict.{report_of, verdict_number}
use Rattle.site.specs.Step.{stepped, step_invalid, decide, step_at, step_of}
use Rattle.site.proofs.StepLaws.{number-any-site}
use Rattle.runs.proofs.Said.{same-event}
use Rattle.job.specs.Simulation.{row_of, Step, event, message, step_by, simulated, state_fits, row_stepped, happen, tell, simulate, step_number, passed_of, heard_of, passed_from, heard_from, zeros, passed, heard_at}
use Rattle.job.proofs.StateLaws.{with-same}
use Rattle.simulation.specs.Run.{record_by_on}
use Rattle.retention.specs.Record.{table_number}
use Rattle.journal.specs.declared.Entry.{Entry}
use Rattle.journal.specs.Journal.{step_on, keep_of, undo_of}
use Rattle.rewind.specs.Return.{point_undo_of, point_back_of}
use Rattle.desks.specs.Desk.{nodes, desk_of, plain, DeskAccepted, desk_rows, desk_row, desk_layout}
use Rattle.desks.specs.Calls.{own_desk, at_desk, step_at_desk, kept_at_desk, desk_step_of, desk_simulate_of, desk_keep_of, desk_undo_of, desk_point_undo_of, desk_point_back_of, desk_record_by_into}
use Rattle.desks.proofs.DeskLaws.{same_nodes, accepted-checks, desk-rows}

-- the answer's desk is not in its number
pub at-number : (d : ℕ) (v : Verdict) → verdict_number (at_desk d v) ≡ verdict_number v
unfolding at_desk report_of
at-number d (Passed e) = refl
at-number d Heard = refl
at-number d (Refused (Invalid n)) = refl
at-number d (Refused (Barred q)) = refl
at-number d (Refused (Unmet q)) = refl
at-number d (Refused Untrue) = refl

-- a step that names its desk is the desk's step
pub at-step : (p : List ℕ) (q d code node : ℕ) (row : List ℕ) → stepped (step_at p q code node row).row (at_desk d (step_at p q code node row).verdict) ≡ step_at p d code node row
unfolding step_at decide at_desk
at-step p q d code node row = cases (decided (eqb (step_invalid p code node row) 0))
    (λ i. cases (decided (barred p (heard row) (event_of code node)))
    (λ b. rw (i, b))
    (λ b. cases (decided (holds (heard row) (guard p (event_of code node)))) (λ g. rw (i, b, g)) (λ g. rw (i, b, g))))
    (λ i. rw i)

-- N4: what passes is heard at its own site, in any layout
once : (p : List ℕ) (lay : Layout) (t : Step) (n : ℕ) (e : Event) → among (passed_of t n) e ≡ true → among (heard_of p lay (site_of p lay e) t n) e ≡ true
unfolding passed_of heard_of among any
once p lay (event code node) n e h = cases (decided (eqb n 0))
    (λ z. let s = same-event (event_of code node) e (sym (or-false _) ∙ (rw z at h)) in rw (z, eq-eqb _ _ (ap (site_of p lay) s)) (rw z at h))
    (λ z. rw z (rw z at h))
once p lay (message code node q) n e h = absurd (false≢true h)

once-from : (p : List ℕ) (lay : Layout) (st : List ℕ) (ts : List Step) (e : Event) → among (passed_from p lay st ts) e ≡ true → among (heard_from p lay (site_of p lay e) st ts) e ≡ true
unfolding passed_from heard_from among
once-from p lay st [] e h = h
once-from p lay st (t ∷ ts) e h =
    let n : ℕ = step_number p lay st t in
    let st' : List ℕ = (simulate p lay st t).state in
    any_append _ (heard_of p lay (site_of p lay e) t n) (heard_from p lay (site_of p lay e) st' ts)
    ∙ (either _ _).1 (cases ((either _ _).0 (sym (any_append _ (passed_of t n) (passed_from p lay st' ts)) ∙ h))
    (λ x. inl (once p lay t n e x))
    (λ x. inr (once-from p lay st' ts e x)))

pub at_once : (p : List ℕ) (lay : Layout) (ts : List Step) (e : Event) → among (passed p lay ts) e ≡ true → among (heard_at p lay (site_of p lay e) ts) e ≡ true
unfolding passed heard_at
at_once p lay ts e h = once-from p lay (zeros p lay) ts e h

module _ (p : List ℕ) (ok : DeskAccepted p) where
  -- N8: a call is the step on the plain plan
  pub on-plain : (code node desk : ℕ) (st : List ℕ) → desk_simulate_of p code node desk st ≡ step_at_desk (own_desk p code node) (step_on (plain p) (desk_layout p) (desk_row p) st code node desk)
  unfolding desk_simulate_of
  on-plain code node desk st = rw (accepted-checks p ok)

  pub desk-step : (code node : ℕ) (row : List ℕ) → desk_step_of p code node row ≡ step_at (plain p) (own_desk p code node) code node row
  unfolding desk_step_of
  desk-step code node row = rw (accepted-checks p ok)

  pub call-number : (code node desk : ℕ) (st : List ℕ) →
      verdict_number (desk_simulate_of p code node desk st).verdict ≡ verdict_number (step_on (plain p) (desk_layout p) (desk_row p) st code node desk).verdict
  call-number code node desk st = rw (on-plain code node desk st) (at-number (own_desk p code node) _)

  pub keep-plain : (st : List ℕ) (es : List Entry) (k code node desk : ℕ) →
      desk_keep_of p st es k code node desk ≡ kept_at_desk (own_desk p code node) (keep_of (plain p) (desk_layout p) (desk_row p) st es k code node desk)
  unfolding desk_keep_of
  keep-plain st es k code node desk = rw (accepted-checks p ok)

  pub undo-plain : (st : List ℕ) (es : List Entry) (k : ℕ) → desk_undo_of p st es k ≡ undo_of (plain p) (desk_layout p) (desk_row p) st es k
  unfolding desk_undo_of
  undo-plain st es k = rw (accepted-checks p ok)

  pub point-undo-plain : (st : List ℕ) (es : List Entry) (k : ℕ) (names places : List ℕ) →
      desk_point_undo_of p st es k names places ≡ point_undo_of (plain p) (desk_layout p) (desk_row p) st es k names places
  unfolding desk_point_undo_of
  point-undo-plain st es k names places = rw (accepted-checks p ok)

  pub point-back-plain : (name st : List ℕ) (es : List Entry) (k : ℕ) (names places : List ℕ) →
      desk_point_back_of p name st es k names places ≡ point_back_of (plain p) (desk_layout p) (desk_row p) name st es k names places
  unfolding desk_point_back_of
  point-back-plain name st es k names places = rw (accepted-checks p ok)

  pub record-plain : (tab : List ℕ) → table_number tab ≡ 0 → (st m c : List ℕ) → desk_record_by_into p tab st m c ≡ record_by_on (plain p) (desk_layout p) tab st m c
  unfolding desk_record_by_into
  record-plain tab right st m c = rw (right, accepted-checks p ok)

  pub step-plain : (code node : ℕ) (row : List ℕ) →
      desk_step_of p code node row ≡ stepped (step_of (plain p) code node row).row (at_desk (own_desk p code node) (step_of (plain p) code node row).verdict)
  step-plain code node row = desk-step code node row ∙ sym (at-step (plain p) _ (own_desk p code node) code node row)

  pub step-number : (code node : ℕ) (row : List ℕ) → verdict_number (desk_step_of p code node row).verdict ≡ verdict_number (step_of (plain p) code node row).verdict
  step-number code node row = rw (desk-step code node row) (number-any-site (plain p) _ _ code node row)

  -- N4: the event's site is its desk's row
  pub own-site : (code node : ℕ) → site_of (plain p) (desk_layout p) (event_of code node) ≡ desk_row p (own_desk p code node)
  unfolding site_of desk_layout own_desk
  own-site code node = refl

  module _ (code node : ℕ) (st : List ℕ) (long : length st ≡ desk_rows p * nodes p) (fine : event_fault (plain p) true code node ≡ 0) where
    fits : state_fits (plain p) (desk_layout p) st ≡ true
    unfolding state_fits desk_layout
    fits = rw (same_nodes p) (eq-eqb (length st) (desk_rows p * nodes p) long)

    faultless-here : (sited : Bool) → sited ≡ true → invalid (plain p) (state_fits (plain p) (desk_layout p) st) sited code node ≡ 0
    faultless-here sited s = rw (s, fits) (invalid-fault (plain p) true true code node ((fit-exact (plain p) true).none.1 (ok.accepted, refl)) ∙ fine)

    pub event-at : desk_simulate_of p code node 255 st
        ≡ row_stepped (plain p) st (desk_row p (own_desk p code node)) (desk_step_of p code node (row_of (plain p) st (desk_row p (own_desk p code node))))
    unfolding step_on step_by simulate happen
    event-at =
        on-plain code node 255 st
        ∙ rw (faultless-here true refl, own-site code node, desk-step code node _)
        (ap (row_stepped (plain p) st (desk_row p (own_desk p code node))) (at-step (plain p) (desk_row p (own_desk p code node)) (own_desk p code node) code node _))

    -- the event's desk is one of the plan
    desk-in : (own_desk p code node ≤ 159) × (desk_row p (own_desk p code node) < desk_rows p)
    unfolding own_desk
    desk-in =
        let v : ℕ = host_of (plain p) (event_of code node) in
        let l : v < nodes p = rw (same_nodes p) at (host-in (plain p) ok.accepted (event_of code node) (faultless (plain p) true code node fine).applied) in
        let r = desk-rows p ok in
        (ok.low v l, r.within (desk_of p v) (r.nodes-use v l))

    pub message-own : heard (row_of (plain p) st (desk_row p (own_desk p code node))) (event_of code node) ≡ true →
        desk_simulate_of p code node (own_desk p code node) st ≡ simulated st Heard
    unfolding step_on step_by simulate tell at_desk desk_layout
    message-own h =
        let d : ℕ = own_desk p code node in
        let q : ℕ = desk_row p d in
        let n : eqb d 255 ≡ false = ne_eqb d 255 (λ e. let l = desk-in.0 in absurd (omega arith)) in
        on-plain code node d st
        ∙ rw (n, faultless-here (ltb q (desk_rows p)) (lt-ltb q (desk_rows p) desk-in.1), own-site code node, h, hear-again (row_of (plain p) st q) code node h, with-same (plain p) st q)
