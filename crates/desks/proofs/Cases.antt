-- Worked calls on small plans with desks (rules N1 to N6): what is lent, the call, its answer, and what it leaves. Assumes nothing.
use mathlib.Core.Path.{◌≡◌, refl}
use mathlib.Core.List.{List, [], ◌∷◌, ◌++◌}
use Prim.Native.Nat.{ℕ, zero, suc}
use lib.ListN.{replicate}
use Rattle.lists.specs.Seq.{all, any, keep as keep_those, up_from, all_below, table, head_or}
use Rattle.plan.specs.Plan.{kind_number, is_kind, kind_of, size, kind_byte, kind, parent, above_byte, children_below, children, child_count, above, in_xor, depth_within, depth}
use Rattle.plan.specs.Check.{length_ok, kind_ok, parent_ok, under_block, fits, count_ok, depth_ok, at_all, check_number, fit_number}
use Rattle.event.specs.Event.{code_number, code_of, is_code, applies_by, applies, known}
use Rattle.event.specs.Site.{host_by, host_of, site_of}
use Rattle.event.specs.Bit.{weight, has_bit, with_bit, without_bit}
use Rattle.event.specs.Valid.{event_fault, invalid}
use Rattle.guard.specs.Guard.{before_in, is_first, start_by, guard_by, guard, holds, bars_by, bars, barred}
use Rattle.guard.specs.Rule.{rule_kind, is_picked, rule_byte}
use Rattle.central.specs.Mark.{mark_number}
use Rattle.retention.specs.Record.{common_table, frame_ok, table_ok, table_number, class_of, above_within, nodes_above, fell, counts_above, counts_as, class, record_of, recorded}
use Rattle.row.specs.Row.{heard_in, heard, hear, unhear}
use Rattle.site.specs.Verdict.{Invalid, Barred, Unmet, Untrue}
use Rattle.site.specs.Verdict.{Verdict}
use Rattle.site.specs.Verdict.{Passed, Heard, Refused}
use Rattle.site.specs.Verdict.{report_of}
use Rattle.site.specs.Step.{stepped, step_invalid, decide, step_at}
use Rattle.job.specs.Simulation.{row_of, with_row, step_by, simulated, state_fits, happen, tell, simulate, mark_by, mark_at, end_marks}
use Rattle.simulation.specs.Run.{record_number, record_by_number, record_by_on}
use Rattle.journal.specs.declared.Entry.{Entry}
use Rattle.journal.specs.Journal.{target, is_set, entry_of, step_on, keep_fits, kept_if, kept, keep_of, sited, entry_fault, undo_fits, undo_number, taken_back, undone, undo_of}
use Rattle.points.specs.Points.{points, same_name, first_slot, slot_of, none_past, named_once, points_fit, dropped}
use Rattle.rewind.specs.Return.{returned, returned_by, point_undo_fits, point_undo_of, back_of, back_fits, point_back_of}
use Rattle.desks.specs.Desk.{nodes, desk_of, plain_byte, plain, threes, desks_low, desk_check, used, used_below, desk_rows, desk_row, desk_layout}
use Rattle.desks.specs.Calls.{own_desk, at_desk, desk_step_of, desk_simulate_of, desk_keep_of, desk_undo_of, desk_point_undo_of, desk_point_back_of, desk_record_by_into, desk_record_into}

-- serial 0 at desk 9: tasks 1, 2 and 3 at desks 2, 9 and 5. Its rows: desk 2, desk 5, desk 9
abbrev four : List ℕ
four = 2 ∷ 255 ∷ 9 ∷ 1 ∷ 0 ∷ 2 ∷ 1 ∷ 0 ∷ 9 ∷ 1 ∷ 0 ∷ 5 ∷ []

-- xor 0 at desk 7: tasks 1 and 2 at desks 3 and 0. Its rows: desk 0, desk 3, desk 7
abbrev one_of : List ℕ
one_of = 5 ∷ 255 ∷ 7 ∷ 1 ∷ 0 ∷ 3 ∷ 1 ∷ 0 ∷ 0 ∷ []

-- a desk too high
abbrev high : List ℕ
high = 2 ∷ 255 ∷ 160 ∷ 1 ∷ 0 ∷ 0 ∷ []

-- the lowest desk and the highest
abbrev ends : List ℕ
ends = 2 ∷ 255 ∷ 159 ∷ 1 ∷ 0 ∷ 0 ∷ []

-- n serials and a task, each the only child of the node before, from u on
pub links : ℕ → ℕ → List ℕ
links zero u = 1 ∷ u ∷ 0 ∷ []
links (suc n) u = 2 ∷ u ∷ 0 ∷ links n (suc u)

abbrev row : ℕ → ℕ → ℕ → ℕ → List ℕ
row a b c d = a ∷ b ∷ c ∷ d ∷ []

abbrev idle : List ℕ
idle = row 0 0 0 0

-- a state of `four`, by rows, and one of `one_of` of which desk 7 alone has heard
abbrev state : List ℕ → List ℕ → List ℕ → List ℕ
state a b c = a ++ b ++ c

abbrev nine : ℕ → ℕ → ℕ → List ℕ
nine a b c = 0 ∷ 0 ∷ 0 ∷ 0 ∷ 0 ∷ 0 ∷ a ∷ b ∷ c ∷ []

abbrev invalid-as : ℕ → Verdict
invalid-as n = Refused (Invalid n)

abbrev passed-at : ℕ → ℕ → ℕ → ℕ → Verdict
passed-at code node desk rule = Passed (record { code = code; node = node; site = desk; rule = rule })

abbrev entry : ℕ → ℕ → ℕ → ℕ → Entry
entry code node desk changed = record { code = code; node = node; site = desk; changed = changed }

-- N2
abbrev pub Checks : Type 0
Checks =
    -- 1: no byte, not a multiple of 3, more than 480
    (desk_check [] ≡ 1)
    × (desk_check (2 ∷ 255 ∷ 160 ∷ 1 ∷ []) ≡ 1)
    × (desk_check (replicate 483 0) ≡ 1)
    × (desk_check (replicate 480 0) ≡ 2)
    -- 2 to 6 before 22
    × (desk_check (9 ∷ 255 ∷ 160 ∷ []) ≡ 2)
    × (desk_check (1 ∷ 0 ∷ 160 ∷ []) ≡ 3)
    × (desk_check (1 ∷ 255 ∷ 160 ∷ 1 ∷ 0 ∷ 0 ∷ []) ≡ 4)
    × (desk_check (2 ∷ 255 ∷ 160 ∷ []) ≡ 5)
    × (desk_check (2 ∷ 255 ∷ 160 ∷ links 31 0) ≡ 6)
    -- 22 for any node's desk; 159 is none too high
    × (desk_check high ≡ 22)
    × (desk_check (2 ∷ 255 ∷ 0 ∷ 1 ∷ 0 ∷ 255 ∷ []) ≡ 22)
    × (desk_check (2 ∷ 255 ∷ 159 ∷ links 30 0) ≡ 0)
    × (desk_check four ≡ 0)
    × (desk_check one_of ≡ 0)

-- N3: rows by rising desk number; a desk that is not in use has none
abbrev pub Rows : Type 0
Rows =
    (desk_rows four ≡ 3)
    × (desk_row four 2 ≡ 0)
    × (desk_row four 5 ≡ 1)
    × (desk_row four 9 ≡ 2)
    × (desk_row four 0 ≡ 3)
    × (desk_row four 3 ≡ 3)
    × (desk_row four 160 ≡ 3)
    × (desk_rows ends ≡ 2)
    × (desk_row ends 0 ≡ 0)
    × (desk_row ends 159 ≡ 1)

-- N4 to N6: a step of a simulation, on four, one_of and plans that are refused
abbrev pub Simulations : Type 0
Simulations =
    -- the plan, 22 directly behind 6; 7, 8 and 9
    (desk_simulate_of [] 0 0 0 [] ≡ simulated [] (invalid-as 1))
    × (desk_simulate_of (2 ∷ 255 ∷ 160 ∷ []) 0 0 0 [] ≡ simulated [] (invalid-as 5))
    × (desk_simulate_of high 0 0 0 [] ≡ simulated [] (invalid-as 22))
    × (desk_simulate_of four 0 0 255 (replicate 16 0) ≡ simulated (replicate 16 0) (invalid-as 7))
    × (desk_simulate_of four 0 0 255 (state idle idle idle) ≡ simulated (state idle idle idle) (invalid-as 8))
    × (desk_simulate_of four 9 0 9 (state idle idle idle) ≡ simulated (state idle idle idle) (invalid-as 8))
    × (desk_simulate_of four 1 4 255 (state idle idle idle) ≡ simulated (state idle idle idle) (invalid-as 8))
    × (desk_simulate_of four 2 1 255 (state idle idle idle) ≡ simulated (state idle idle idle) (invalid-as 9))
    × (desk_simulate_of four 2 1 2 (state idle idle idle) ≡ simulated (state idle idle idle) (invalid-as 9))
    -- 8 for a desk that is not in use: a row's number, a node's, and those above 9f
    × (desk_simulate_of four 1 0 0 (state idle idle (row 1 0 0 0)) ≡ simulated (state idle idle (row 1 0 0 0)) (invalid-as 8))
    × (desk_simulate_of four 1 0 3 (state idle idle (row 1 0 0 0)) ≡ simulated (state idle idle (row 1 0 0 0)) (invalid-as 8))
    × (desk_simulate_of four 1 0 160 (state idle idle (row 1 0 0 0)) ≡ simulated (state idle idle (row 1 0 0 0)) (invalid-as 8))
    × (desk_simulate_of four 1 0 254 (state idle idle (row 1 0 0 0)) ≡ simulated (state idle idle (row 1 0 0 0)) (invalid-as 8))
    × (desk_simulate_of four 1 0 256 (state idle idle (row 1 0 0 0)) ≡ simulated (state idle idle (row 1 0 0 0)) (invalid-as 8))
    -- an event on the row of its desk, which 0, 10 and 11 name
    × (desk_simulate_of four 1 0 255 (state idle idle idle) ≡ simulated (state idle idle (row 1 0 0 0)) (passed-at 1 0 9 0x01))
    × (desk_simulate_of four 1 0 255 (state idle idle (row 1 0 0 0)) ≡ simulated (state idle idle (row 1 0 0 0)) (Refused (Barred 9)))
    × (desk_simulate_of four 1 1 255 (state idle idle (row 1 0 0 0)) ≡ simulated (state idle idle (row 1 0 0 0)) (Refused (Unmet 2)))
    -- 12 by the row of the event's own desk, whatever others have
    × (desk_simulate_of four 1 0 5 (state (row 1 0 0 0) idle idle) ≡ simulated (state (row 1 0 0 0) idle idle) (Refused Untrue))
    × (desk_simulate_of four 1 0 9 (state (row 1 0 0 0) idle idle) ≡ simulated (state (row 1 0 0 0) idle idle) (Refused Untrue))
    -- a message to another desk, and to that of the event
    × (desk_simulate_of four 1 0 2 (state idle idle (row 1 0 0 0)) ≡ simulated (state (row 1 0 0 0) idle (row 1 0 0 0)) Heard)
    × (desk_simulate_of four 1 0 5 (state idle idle (row 1 0 0 0)) ≡ simulated (state idle (row 1 0 0 0) (row 1 0 0 0)) Heard)
    × (desk_simulate_of four 1 0 9 (state idle idle (row 1 0 0 0)) ≡ simulated (state idle idle (row 1 0 0 0)) Heard)
    -- what was told is known there, and what passed at a desk is known to all its nodes
    × (desk_simulate_of four 1 1 255 (state (row 1 0 0 0) idle (row 1 0 0 0)) ≡ simulated (state (row 1 1 0 0) idle (row 1 0 0 0)) (passed-at 1 1 2 0x21))
    × (desk_simulate_of four 1 2 255 (state idle idle (row 1 4 0 0)) ≡ simulated (state idle idle (row 1 4 1 0)) (passed-at 1 2 9 0x21))
    -- a pick is decided at the parent's desk
    × (desk_simulate_of one_of 7 1 255 (nine 1 2 0) ≡ simulated (nine 1 66 0) (passed-at 7 1 7 0x57))
    × (desk_simulate_of one_of 7 1 255 (nine 1 66 0) ≡ simulated (nine 1 66 0) (Refused (Barred 7)))
    × (desk_simulate_of one_of 7 1 255 (nine 1 0 0) ≡ simulated (nine 1 0 0) (Refused (Unmet 7)))

-- N6, N7: a desk's step on its row
abbrev pub Steps : Type 0
Steps =
    (desk_step_of [] 0 0 [] ≡ stepped [] (invalid-as 1))
    × (desk_step_of high 0 0 [] ≡ stepped [] (invalid-as 22))
    × (desk_step_of four 0 0 [] ≡ stepped [] (invalid-as 7))
    × (desk_step_of four 0 0 idle ≡ stepped idle (invalid-as 8))
    × (desk_step_of four 2 1 idle ≡ stepped idle (invalid-as 9))
    × (desk_step_of four 1 3 (row 1 0 0 1) ≡ stepped (row 1 0 0 1) (Refused (Barred 5)))
    × (desk_step_of four 1 3 (row 1 4 0 0) ≡ stepped (row 1 4 0 0) (Refused (Unmet 5)))
    × (desk_step_of four 1 3 (row 1 4 4 0) ≡ stepped (row 1 4 4 1) (passed-at 1 3 5 0x21))
    × (desk_step_of one_of 7 1 (1 ∷ 2 ∷ 0 ∷ []) ≡ stepped (1 ∷ 66 ∷ 0 ∷ []) (passed-at 7 1 7 0x57))

-- N6, L2: a kept step; an entry names the desk
abbrev blank : Entry
blank = entry 9 9 9 9

abbrev pub Keeps : Type 0
Keeps =
    (desk_keep_of high (1 ∷ []) (blank ∷ []) 5 1 0 255 ≡ kept (simulated (1 ∷ []) (invalid-as 22)) (blank ∷ []) 5)
    × (desk_keep_of four (state idle idle idle) (blank ∷ []) 1 0 0 0 ≡ kept (simulated (state idle idle idle) (invalid-as 7)) (blank ∷ []) 1)
    × (desk_keep_of four (state idle idle (row 1 0 0 0)) (blank ∷ []) 0 1 0 1 ≡ kept (simulated (state idle idle (row 1 0 0 0)) (invalid-as 8)) (blank ∷ []) 0)
    × (desk_keep_of four (state idle idle (row 1 0 0 0)) (blank ∷ []) 0 1 0 255 ≡ kept (simulated (state idle idle (row 1 0 0 0)) (Refused (Barred 9))) (blank ∷ []) 0)
    × (desk_keep_of four (state idle idle idle) (blank ∷ []) 0 1 1 255 ≡ kept (simulated (state idle idle idle) (Refused (Unmet 2))) (blank ∷ []) 0)
    × (desk_keep_of four (state idle idle idle) (blank ∷ []) 0 1 0 255 ≡ kept (simulated (state idle idle (row 1 0 0 0)) (passed-at 1 0 9 0x01)) (entry 1 0 255 1 ∷ []) 1)
    × (desk_keep_of four (state idle idle (row 1 0 0 0)) (blank ∷ []) 0 1 0 5 ≡ kept (simulated (state idle (row 1 0 0 0) (row 1 0 0 0)) Heard) (entry 1 0 5 1 ∷ []) 1)
    × (desk_keep_of four (state idle idle (row 1 0 0 0)) (blank ∷ []) 0 1 0 9 ≡ kept (simulated (state idle idle (row 1 0 0 0)) Heard) (entry 1 0 9 0 ∷ []) 1)

-- N6, L3: a take-back
abbrev pub Undos : Type 0
Undos =
    (desk_undo_of high [] [] 1 ≡ undone 22 [] 1)
    × (desk_undo_of four [] [] 0 ≡ undone 7 [] 0)
    × (desk_undo_of four (state idle idle idle) [] 0 ≡ undone 16 (state idle idle idle) 0)
    × (desk_undo_of four (state idle idle idle) (entry 1 0 1 1 ∷ []) 1 ≡ undone 8 (state idle idle idle) 1)
    × (desk_undo_of four (state idle idle idle) (entry 2 1 2 1 ∷ []) 1 ≡ undone 9 (state idle idle idle) 1)
    × (desk_undo_of four (state idle (row 1 0 0 0) (row 1 0 0 0)) (entry 1 0 5 1 ∷ []) 1 ≡ undone 0 (state idle idle (row 1 0 0 0)) 0)
    × (desk_undo_of four (state idle idle (row 1 0 0 0)) (entry 1 0 9 0 ∷ []) 1 ≡ undone 0 (state idle idle (row 1 0 0 0)) 0)
    × (desk_undo_of four (state idle (row 1 0 0 0) (row 1 0 0 0)) (entry 1 0 255 1 ∷ []) 1 ≡ undone 0 (state idle (row 1 0 0 0) idle) 0)

-- N6, M5, M6: points; slot 0 has the name of eight bytes 1, at the place after one step
abbrev day : List Entry
day = entry 1 0 255 1 ∷ entry 1 0 5 1 ∷ entry 1 0 2 1 ∷ []

abbrev names : List ℕ
names = replicate 8 1 ++ replicate 120 0

abbrev places : List ℕ
places = 2 ∷ replicate 15 0

abbrev pub Returns : Type 0
Returns =
    (desk_point_undo_of high [] [] 1 [] [] ≡ returned 22 [] 1 (points [] []))
    × (desk_point_undo_of four (state idle idle (row 1 0 0 0)) day 0 names places ≡ returned 7 (state idle idle (row 1 0 0 0)) 0 (points names places))
    × (desk_point_undo_of four (state idle (row 1 0 0 0) (row 1 0 0 0)) day 2 names places ≡ returned 0 (state idle idle (row 1 0 0 0)) 1 (points names places))
    × (desk_point_undo_of four (state idle idle (row 1 0 0 0)) day 1 names places ≡ returned 0 (state idle idle idle) 0 (points (replicate 128 0) (replicate 16 0)))
    × (desk_point_back_of high [] [] [] 1 [] [] ≡ returned 22 [] 1 (points [] []))
    × (desk_point_back_of four (replicate 8 2) (state idle idle (row 1 0 0 0)) day 1 names places ≡ returned 19 (state idle idle (row 1 0 0 0)) 1 (points names places))
    × (desk_point_back_of four (replicate 8 1) (state (row 1 0 0 0) (row 1 0 0 0) (row 1 0 0 0)) day 3 names places ≡ returned 0 (state idle idle (row 1 0 0 0)) 1 (points names places))

-- N4, N6: the record; a mark is read in the row of the node's own desk, whatever others have
abbrev heard_all : List ℕ
heard_all = state (row 9 5 4 4) (row 8 8 4 0) (row 1 0 1 4)

abbrev pub Records : Type 0
Records =
    -- 21, then 1 to 6, then 22, then 7
    (desk_record_by_into [] [] [] [] [] ≡ recorded 21 [] [])
    × (desk_record_by_into high [] [] [] [] ≡ recorded 21 [] [])
    × (desk_record_into [] [] [] [] ≡ recorded 1 [] [])
    × (desk_record_into (2 ∷ 255 ∷ 160 ∷ []) [] [] [] ≡ recorded 5 [] [])
    × (desk_record_into high [] (1 ∷ []) [] ≡ recorded 22 (1 ∷ []) [])
    × (desk_record_into four [] idle idle ≡ recorded 7 idle idle)
    × (desk_record_into four heard_all [] idle ≡ recorded 7 [] idle)
    × (desk_record_into four heard_all idle idle ≡ recorded 0 (row 1 3 1 0) (row 0 3 3 0))
    × (desk_record_by_into four (0 ∷ 0 ∷ 1 ∷ 1 ∷ 2 ∷ 2 ∷ 3 ∷ 3 ∷ 4 ∷ 3 ∷ 5 ∷ 3 ∷ []) heard_all idle idle ≡ recorded 0 (row 1 3 1 0) (row 0 2 1 0))

pub all_right : Checks × Rows × Simulations × Steps × Keeps × Undos × Returns × Records
unfolding links desk_check threes desks_low nodes desk_of plain plain_byte used used_below desk_row desk_layout own_desk at_desk desk_step_of desk_simulate_of desk_keep_of desk_undo_of desk_point_undo_of desk_point_back_of desk_record_by_into point_undo_of point_undo_fits returned_by back_of back_fits point_back_of points_fit none_past named_once slot_of first_slot same_name dropped keep_of kept_if keep_fits step_on entry_of is_set target sited entry_fault undo_fits undo_number taken_back undo_of record_by_on record_by_number record_number table_number table_ok frame_ok record_of class class_of counts_as counts_above nodes_above above_within fell common_table site_of host_of host_by step_by simulate happen tell state_fits row_of with_row mark_by mark_at end_marks mark_number event_fault invalid known applies applies_by is_code code_of code_number step_at step_invalid decide report_of rule_byte is_picked rule_kind heard heard_in hear unhear has_bit with_bit without_bit weight fit_number check_number length_ok kind_ok parent_ok under_block fits count_ok depth_ok at_all size kind_byte kind kind_of kind_number is_kind parent above_byte children_below children child_count depth depth_within above in_xor guard guard_by start_by is_first head_or before_in holds barred bars bars_by all any keep_those up_from all_below table
all_right = (
  (refl, refl, refl, refl, refl, refl, refl, refl, refl, refl, refl, refl, refl, refl),
  (refl, refl, refl, refl, refl, refl, refl, refl, refl, refl),
  (refl, refl, refl, refl, refl, refl, refl, refl, refl, refl, refl, refl, refl, refl, refl, refl, refl, refl, refl, refl, refl, refl, refl, refl, refl, refl, refl),
  (refl, refl, refl, refl, refl, refl, refl, refl, refl),
  (refl, refl, refl, refl, refl, refl, refl, refl),
  (refl, refl, refl, refl, refl, refl, refl, refl),
  (refl, refl, refl, refl, refl, refl, refl),
  (refl, refl, refl, refl, refl, refl, refl, refl, refl),
)
