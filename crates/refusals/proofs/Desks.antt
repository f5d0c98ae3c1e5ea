-- The calls on plans with desks: the check's number refuses a plan and leaves all, and an accepted one is a plan with a layout of rows.
-- Assumes nothing.
use mathlib.Core.Path.{◌≡◌, refl, sym, ◌∙◌}
use mathlib.Core.Bool.{cond, not}
use mathlib.Core.List.{List}
use Prim.Native.Nat.{ℕ, ◌*◌, ◌≤◌}
use native.Mathlib.Omega.{arith}
use lib.Dec.{eqb}
use lib.ListN.{length}
use Rattle.lists.specs.Seq.{up_from}
use Rattle.lists.proofs.Logic.{cases, decided}
use Rattle.lists.proofs.Keep.{keep-short}
use Rattle.lists.proofs.Table.{up-length}
use Rattle.plan.specs.Plan.{size}
use Rattle.retention.specs.Record.{table_number, Recorded, recorded}
use Rattle.site.specs.Verdict.{Invalid}
use Rattle.site.specs.Verdict.{Refused}
use Rattle.site.specs.Verdict.{verdict_number}
use Rattle.site.specs.Step.{Stepped, stepped, step_at}
use Rattle.job.specs.Simulation.{step_by, Simulated, simulated}
use Rattle.job.proofs.StepLaws.{refused-leaves}
use Rattle.layout.specs.Layout.{Laid}
use Rattle.simulation.specs.Run.{record_by_on}
use Rattle.journal.specs.declared.Entry.{Entry}
use Rattle.journal.specs.Journal.{Kept, kept, step_on, keep_of, Undone, undone, undo_of}
use Rattle.points.specs.Points.{points}
use Rattle.rewind.specs.Return.{Returned, returned, point_undo_of, point_back_of}
use Rattle.desks.specs.Desk.{nodes, plain, desk_check, DeskAccepted, used, used_below, desk_rows, desk_row, desk_layout}
use Rattle.desks.specs.Calls.{own_desk, step_at_desk, kept_at_desk, desk_step_of, desk_simulate_of, desk_keep_of, desk_undo_of, desk_point_undo_of, desk_point_back_of, desk_record_by_into}
use Rattle.desks.proofs.DeskLaws.{same_nodes, accepted-checks, housed}
use Rattle.desks.proofs.CallLaws.{at-number}
use Rattle.refusals.specs.Claim.{DeskAcceptedPass}
use Rattle.refusals.proofs.ChoiceLaws.{Leaving, refusal}
use Rattle.refusals.proofs.Leaves.{step_left, keep_left, undo-left, buffers, record-leaves}
use Rattle.refusals.proofs.Passes.{common-right, step-later, record-passes}
use Rattle.refusals.proofs.Simulated.{simulate-later}
use Rattle.refusals.proofs.Journal.{keep-later, undo-later}
use Rattle.refusals.proofs.Points.{left, undo-leaves, back-leaves, point-undo-later, point-back-later}

-- REFUSED
module _ (p : List ℕ) where
  abbrev two : List ℕ
  two = plain p

  abbrev n : ℕ
  n = desk_check p

  pub desk-step-leaves : (code node : ℕ) (row : List ℕ) → Leaving (λ (s : Stepped). verdict_number s.verdict) (λ s. s.row ≡ row) (desk_step_of p code node row)
  unfolding desk_step_of
  desk-step-leaves code node row =
      refusal (λ (s : Stepped). verdict_number s.verdict) (λ s. s.row ≡ row) n (stepped row (Refused (Invalid n))) (step_at two (own_desk p code node) code node row) refl
      (λ e. step_left two (own_desk p code node) code node row)

  pub desk-simulate-leaves : (code node d : ℕ) (st : List ℕ) → Leaving (λ (s : Simulated). verdict_number s.verdict) (λ s. s.state ≡ st) (desk_simulate_of p code node d st)
  unfolding desk_simulate_of step_on
  desk-simulate-leaves code node d st =
      let s = step_on two (desk_layout p) (desk_row p) st code node d in
      refusal (λ (s : Simulated). verdict_number s.verdict) (λ s. s.state ≡ st) n (simulated st (Refused (Invalid n))) (step_at_desk (own_desk p code node) s) refl
      (λ e h. refused-leaves two (desk_layout p) st (step_by (desk_row p) code node d) (λ z. h (at-number (own_desk p code node) s.verdict ∙ z)))

  module _ (st : List ℕ) (es : List Entry) (k : ℕ) where
    pub desk-keep-leaves : (code node d : ℕ) → Leaving (λ (a : Kept). verdict_number a.step.verdict) (λ a. (a.step.state ≡ st) × (a.entries ≡ es) × (a.count ≡ k)) (desk_keep_of p st es k code node d)
    unfolding desk_keep_of
    desk-keep-leaves code node d =
        let a = keep_of two (desk_layout p) (desk_row p) st es k code node d in
        refusal (λ (a : Kept). verdict_number a.step.verdict) (λ a. (a.step.state ≡ st) × (a.entries ≡ es) × (a.count ≡ k)) n
        (kept (simulated st (Refused (Invalid n))) es k) (kept_at_desk (own_desk p code node) a) (refl, refl, refl)
        (λ e h. keep_left two (desk_layout p) (desk_row p) st es k code node d (λ z. h (at-number (own_desk p code node) a.step.verdict ∙ z)))

    pub desk-undo-leaves : Leaving (λ (u : Undone). u.number) (λ u. (u.state ≡ st) × (u.count ≡ k)) (desk_undo_of p st es k)
    unfolding desk_undo_of
    desk-undo-leaves =
        refusal (λ (u : Undone). u.number) (λ u. (u.state ≡ st) × (u.count ≡ k)) n (undone n st k) (undo_of two (desk_layout p) (desk_row p) st es k) (refl, refl)
        (λ e. undo-left two (desk_layout p) (desk_row p) st es k)

    module _ (ns ps : List ℕ) where
      pub desk-point-undo-leaves : Leaving (λ (r : Returned). r.number) (left st k ns ps) (desk_point_undo_of p st es k ns ps)
      unfolding desk_point_undo_of
      desk-point-undo-leaves =
          refusal (λ (r : Returned). r.number) (left st k ns ps) n (returned n st k (points ns ps)) (point_undo_of two (desk_layout p) (desk_row p) st es k ns ps) (refl, refl, refl)
          (λ e. undo-leaves st k ns ps two (desk_layout p) (desk_row p) es)

      pub desk-point-back-leaves : (name : List ℕ) → Leaving (λ (r : Returned). r.number) (left st k ns ps) (desk_point_back_of p name st es k ns ps)
      unfolding desk_point_back_of
      desk-point-back-leaves name =
          refusal (λ (r : Returned). r.number) (left st k ns ps) n (returned n st k (points ns ps)) (point_back_of two (desk_layout p) (desk_row p) name st es k ns ps) (refl, refl, refl)
          (λ e. back-leaves st k ns ps two (desk_layout p) (desk_row p) name es)

  -- the table's number, then the check's
  pub desk-record-leaves : (tab st m c : List ℕ) → Leaving (λ (r : Recorded). r.number) (buffers m c) (desk_record_by_into p tab st m c)
  unfolding desk_record_by_into
  desk-record-leaves tab st m c =
      let t = table_number tab in
      let r = record_by_on two (desk_layout p) tab st m c in
      refusal (λ (r : Recorded). r.number) (buffers m c) t (recorded t m c) (cond (not (eqb n 0)) (recorded n m c) r) (refl, refl)
      (λ e. refusal (λ (r : Recorded). r.number) (buffers m c) n (recorded n m c) r (refl, refl) (λ z. record-leaves m c two (desk_layout p) tab st))

-- ACCEPTED
module _ (p : List ℕ) (ok : DeskAccepted p) where
  rows_few : desk_rows p ≤ 160
  unfolding used_below
  rows_few = let s = keep-short (used p) (up_from 0 160) in omega (arith, up-length 0 160)

  desk-laid : (st : List ℕ) → length st ≡ desk_rows p * nodes p → Laid (plain p) (desk_layout p) st
  unfolding desk_layout
  desk-laid st long = record { plan = ok.accepted; housed = housed p ok; few = rows_few; long = long ∙ rw (same_nodes p) }

  one : (x : List ℕ) → length x ≡ nodes p → length x ≡ size (plain p)
  one x e = e ∙ sym (same_nodes p)

  record-number : (tab st m c : List ℕ) → length st ≡ desk_rows p * nodes p → length m ≡ nodes p → length c ≡ nodes p → (desk_record_by_into p tab st m c).number ≡ table_number tab
  unfolding desk_record_by_into
  record-number tab st m c ls lm lc = cases (decided (eqb (table_number tab) 0))
      (λ t. rw (t, accepted-checks p ok) (record-passes (plain p) ok.accepted (desk_layout p) tab st m c (desk-laid st ls).long (one m lm) (one c lc)))
      (λ t. rw t)

  pub desk-accepted-pass : DeskAcceptedPass p
  unfolding desk_step_of desk_simulate_of desk_keep_of desk_undo_of desk_point_undo_of desk_point_back_of step_on
  desk-accepted-pass =
      let z = accepted-checks p ok in
      let lay = desk_layout p in
      let row = desk_row p in
      record {
        step = λ code node r long. rw z (step-later (plain p) ok.accepted code node r (one r long) (own_desk p code node));
        simulate = λ code node d st long. rw (z, at-number) (simulate-later (plain p) lay st (desk-laid st long) (step_by row code node d));
        keep = λ st es k code node d long room. rw (z, at-number) (keep-later (plain p) lay row st (desk-laid st long) es k code node d room);
        undo = λ st es k long within. rw z (undo-later (plain p) lay row st (desk-laid st long) es k within);
        point-undo = λ st es k ns ps long within right. rw z (point-undo-later (plain p) lay row st (desk-laid st long) es k within ns ps right);
        point-back = λ name st es k ns ps eight long within right. rw z (point-back-later (plain p) lay row st (desk-laid st long) es k within ns ps right name eight);
        end-record = λ st m c ls lm lc. record-number _ st m c ls lm lc ∙ common-right;
        end-record-by = record-number;
      }
