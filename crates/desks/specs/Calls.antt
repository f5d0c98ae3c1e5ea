-- The calls on plans with desks (rules N5 to N7), each as one value: the answer and every lent byte. Each is the number of the plan's check, with all
-- left, or what is done on the plain plan with the layout of the desks. Definitions only.
use Rattle.std.specs.Prelude.{cond, not, List, ℕ, eqb}
use Rattle.event.specs.Event.{event_of}
use Rattle.event.specs.Site.{host_of}
use Rattle.retention.specs.Record.{common_table, table_number, Recorded, recorded}
use Rattle.site.specs.Verdict.{Invalid, Barred, Unmet, Untrue}
use Rattle.site.specs.Verdict.{Verdict}
use Rattle.site.specs.Verdict.{Passed, Heard, Refused}
use Rattle.site.specs.Step.{Stepped, stepped, step_at}
use Rattle.job.specs.Simulation.{Simulated, simulated}
use Rattle.simulation.specs.Run.{record_by_on}
use Rattle.journal.specs.declared.Entry.{Entry}
use Rattle.journal.specs.Journal.{Kept, kept, step_on, keep_of, Undone, undone, undo_of}
use Rattle.points.specs.Points.{points}
use Rattle.rewind.specs.Return.{Returned, returned, point_undo_of, point_back_of}
use Rattle.desks.specs.Desk.{desk_of, plain, desk_check, desk_row, desk_layout}

-- N4, N6: the desk that decides an event
unfoldable pub own_desk : List ℕ → ℕ → ℕ → ℕ
own_desk p code node = desk_of p (host_of (plain p) (event_of code node))

-- N6: an answer that names the event's row names its desk d instead
unfoldable pub at_desk : ℕ → Verdict → Verdict
at_desk d (Passed e) = Passed (record { code = e.code; node = e.node; site = d; rule = e.rule })
at_desk d Heard = Heard
at_desk d (Refused (Invalid n)) = Refused (Invalid n)
at_desk d (Refused (Barred q)) = Refused (Barred d)
at_desk d (Refused (Unmet q)) = Refused (Unmet d)
at_desk d (Refused Untrue) = Refused Untrue

abbrev pub step_at_desk : ℕ → Simulated → Simulated
step_at_desk d s = simulated s.state (at_desk d s.verdict)

abbrev pub kept_at_desk : ℕ → Kept → Kept
kept_at_desk d a = kept (step_at_desk d a.step) a.entries a.count

module _ (p : List ℕ) where
  -- N6, N7: a desk's step on its row
  unfoldable pub desk_step_of : ℕ → ℕ → List ℕ → Stepped
  desk_step_of code node row =
      cond (not (eqb (desk_check p) 0)) (stepped row (Refused (Invalid (desk_check p))))
      (step_at (plain p) (own_desk p code node) code node row)

  -- N5, N6: a step of a simulation; desk ff stands for the event itself
  unfoldable pub desk_simulate_of : ℕ → ℕ → ℕ → List ℕ → Simulated
  desk_simulate_of code node desk st =
      cond (not (eqb (desk_check p) 0)) (simulated st (Refused (Invalid (desk_check p))))
      (step_at_desk (own_desk p code node) (step_on (plain p) (desk_layout p) (desk_row p) st code node desk))

  -- N6: a kept step
  unfoldable pub desk_keep_of : List ℕ → List Entry → ℕ → ℕ → ℕ → ℕ → Kept
  desk_keep_of st es k code node desk =
      cond (not (eqb (desk_check p) 0)) (kept (simulated st (Refused (Invalid (desk_check p)))) es k)
      (kept_at_desk (own_desk p code node) (keep_of (plain p) (desk_layout p) (desk_row p) st es k code node desk))

  -- N6: a take-back
  unfoldable pub desk_undo_of : List ℕ → List Entry → ℕ → Undone
  desk_undo_of st es k =
      cond (not (eqb (desk_check p) 0)) (undone (desk_check p) st k)
      (undo_of (plain p) (desk_layout p) (desk_row p) st es k)

  -- N6: a take-back with points
  unfoldable pub desk_point_undo_of : List ℕ → List Entry → ℕ → List ℕ → List ℕ → Returned
  desk_point_undo_of st es k names places =
      cond (not (eqb (desk_check p) 0)) (returned (desk_check p) st k (points names places))
      (point_undo_of (plain p) (desk_layout p) (desk_row p) st es k names places)

  -- N6: going back
  unfoldable pub desk_point_back_of : List ℕ → List ℕ → List Entry → ℕ → List ℕ → List ℕ → Returned
  desk_point_back_of name st es k names places =
      cond (not (eqb (desk_check p) 0)) (returned (desk_check p) st k (points names places))
      (point_back_of (plain p) (desk_layout p) (desk_row p) name st es k names places)

  -- H0, N6: the record by a house's table, whose number comes first
  unfoldable pub desk_record_by_into : List ℕ → List ℕ → List ℕ → List ℕ → Recorded
  desk_record_by_into tab st m c =
      cond (not (eqb (table_number tab) 0)) (recorded (table_number tab) m c)
      (cond (not (eqb (desk_check p) 0)) (recorded (desk_check p) m c)
      (record_by_on (plain p) (desk_layout p) tab st m c))

  -- G1, N6: by the common table
  abbrev pub desk_record_into : List ℕ → List ℕ → List ℕ → Recorded
  desk_record_into st m c = desk_record_by_into common_table st m c
