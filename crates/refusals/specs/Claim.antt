-- THE CLAIM OF DEMAND 1 (rules A, H, N2 and R9): which plans are accepted, with desks or without, and which depth forms; that an accepted plan with right lengths is not refused
-- with 1 to 7, nor with 22; and that a refused call leaves every lent byte. It is about the definitions that the contracts of the C functions cite.
-- Definitions only.
use Rattle.std.specs.Prelude.{◌≡◌, cond, List, ℕ, ◌*◌, ◌/◌, ◌%◌, ◌≤◌, ◌<◌, length}
use Rattle.plan.specs.Plan.{size}
use Rattle.plan.specs.Check.{Accepted, CheckExact}
use Rattle.checker.specs.Depths.{depths_of}
use Rattle.rewrite.specs.Rewrite.{rewrite_of}
use Rattle.trees.specs.Numbering.{in_preorder}
use Rattle.trees.specs.Renumber.{renumber_of}
use Rattle.depth_form.specs.Form.{form_number}
use Rattle.depth_form.specs.Calls.{to_depths_of, from_depths_of}
use Rattle.depth_form.specs.Claim.{FormExact}
use Rattle.template.specs.Call.{repeat_of}
use Rattle.small_plans.specs.Call.{next_of}
use Rattle.workload.specs.Call.{load_of}
use Rattle.event.specs.Event.{event_of}
use Rattle.guard.specs.Guard.{guard}
use Rattle.guard.specs.Bytes.{encode}
use Rattle.writer.specs.Written.{written_number, write_of}
use Rattle.site.specs.Verdict.{verdict_number}
use Rattle.site.specs.Step.{step_of, hear_of}
use Rattle.central.specs.Rule.{ruling_number, rule_of}
use Rattle.pass.specs.Pass.{pass_into}
use Rattle.reach.specs.Impact.{impact_into}
use Rattle.way.specs.Way.{way_into}
use Rattle.retention.specs.Record.{table_number}
use Rattle.pass_record.specs.PassRecord.{pass_record_into}
use Rattle.simulation.specs.Run.{simulate_of, record_into, record_by_into, run_of}
use Rattle.journal.specs.declared.Entry.{Entry}
use Rattle.keeping.specs.Keeping.{keep_own, undo_own}
use Rattle.points.specs.Points.{points, name_of}
use Rattle.points.specs.Claim.{PointsRight}
use Rattle.rewind.specs.Return.{point_undo_own, point_back_own}
use Rattle.desks.specs.Desk.{nodes, DeskAccepted, DeskCheckExact, desk_rows}
use Rattle.desks.specs.Calls.{desk_step_of, desk_simulate_of, desk_keep_of, desk_undo_of, desk_point_undo_of, desk_point_back_of, desk_record_by_into, desk_record_into}
use Rattle.script.specs.Script.{rehearse_into, run_text_into}

-- H16, H17: the number of the answer to an event at a site, to a message, and to either in a simulation
abbrev pub event_number : List ℕ → ℕ → ℕ → List ℕ → ℕ
event_number p code node row = verdict_number (step_of p code node row).verdict

abbrev pub message_number : List ℕ → ℕ → ℕ → List ℕ → ℕ
message_number p code node row = verdict_number (hear_of p code node row).verdict

abbrev pub simulate_number : List ℕ → ℕ → ℕ → ℕ → List ℕ → ℕ
simulate_number p code node q st = verdict_number (simulate_of p code node q st).verdict

-- L2: and to a kept step
abbrev pub keep_number : List ℕ → List ℕ → List Entry → ℕ → ℕ → ℕ → ℕ → ℕ
keep_number p st es k code node q = verdict_number (keep_own p st es k code node q).step.verdict

-- N6: and to a step on a plan with desks, of a desk, in a simulation, and kept
abbrev pub desk_event_number : List ℕ → ℕ → ℕ → List ℕ → ℕ
desk_event_number p code node row = verdict_number (desk_step_of p code node row).verdict

abbrev pub desk_simulate_number : List ℕ → ℕ → ℕ → ℕ → List ℕ → ℕ
desk_simulate_number p code node d st = verdict_number (desk_simulate_of p code node d st).verdict

abbrev pub desk_keep_number : List ℕ → List ℕ → List Entry → ℕ → ℕ → ℕ → ℕ → ℕ
desk_keep_number p st es k code node d = verdict_number (desk_keep_of p st es k code node d).step.verdict

-- E10, H18: and of the guard writer and the central rule
abbrev pub guard_number : List ℕ → ℕ → ℕ → List ℕ → ℕ
guard_number p code node b = written_number (write_of p code node b).answer

abbrev pub rule_number : List ℕ → ℕ → ℕ → List ℕ → List ℕ → ℕ
rule_number p code node m k = ruling_number (rule_of p code node m k).ruling

-- H0: where the number is not 0, every lent byte is as it was
pub record RefusalsLeave : Type 0 where
  -- vulcedar_rewrite
  pub rewrite : (p b : List ℕ) → ((rewrite_of p b).number ≡ 0 → ⊥) → (rewrite_of p b).out ≡ b
  -- vulcedar_renumber
  pub renumber : (p b : List ℕ) → ((renumber_of p b).number ≡ 0 → ⊥) → (renumber_of p b).out ≡ b
  -- vulcedar_to_depths
  pub to-depths : (p b : List ℕ) → ((to_depths_of p b).number ≡ 0 → ⊥) → (to_depths_of p b).out ≡ b
  -- vulcedar_from_depths
  pub from-depths : (d b : List ℕ) → ((from_depths_of d b).number ≡ 0 → ⊥) → (from_depths_of d b).out ≡ b
  -- vulcedar_repeat, which then has no value either
  pub repeat : (p : List ℕ) (v r : ℕ) (b : List ℕ) → ((repeat_of p v r b).number ≡ 0 → ⊥) → ((repeat_of p v r b).out ≡ b) × ((repeat_of p v r b).nodes ≡ 0)
  -- vulcedar_next_plan, as that
  pub next-plan : (p b : List ℕ) → ((next_of p b).number ≡ 0 → ⊥) → ((next_of p b).out ≡ b) × ((next_of p b).nodes ≡ 0)
  -- vulcedar_workload
  pub workload : (p : List ℕ) (s c : ℕ) (b : List ℕ) → ((load_of p s c b).number ≡ 0 → ⊥) → (load_of p s c b).out ≡ b
  -- vulcedar_check_depths
  pub check-depths : (p d : List ℕ) → ((depths_of p d).number ≡ 0 → ⊥) → (depths_of p d).depths ≡ d
  -- vulcedar_guard
  pub guarded : (p : List ℕ) (code node : ℕ) (b : List ℕ) → (guard_number p code node b ≡ 0 → ⊥) → (write_of p code node b).buffer ≡ b
  -- vulcedar_step
  pub step : (p : List ℕ) (code node : ℕ) (row : List ℕ) → (event_number p code node row ≡ 0 → ⊥) → (step_of p code node row).row ≡ row
  -- vulcedar_hear
  pub hear : (p : List ℕ) (code node : ℕ) (row : List ℕ) → (message_number p code node row ≡ 0 → ⊥) → (hear_of p code node row).row ≡ row
  -- vulcedar_simulate
  pub simulate : (p : List ℕ) (code node q : ℕ) (st : List ℕ) → (simulate_number p code node q st ≡ 0 → ⊥) → (simulate_of p code node q st).state ≡ st
  -- vulcedar_keep
  pub keep : (p st : List ℕ) (es : List Entry) (k code node q : ℕ) → (keep_number p st es k code node q ≡ 0 → ⊥) →
      ((keep_own p st es k code node q).step.state ≡ st) × ((keep_own p st es k code node q).entries ≡ es) × ((keep_own p st es k code node q).count ≡ k)
  -- vulcedar_undo, which never writes the entries
  pub undo : (p st : List ℕ) (es : List Entry) (k : ℕ) → ((undo_own p st es k).number ≡ 0 → ⊥) → ((undo_own p st es k).state ≡ st) × ((undo_own p st es k).count ≡ k)
  -- vulcedar_point_name
  pub point-name : (name : List ℕ) (k : ℕ) (ns ps : List ℕ) → ((name_of name k ns ps).number ≡ 0 → ⊥) → (name_of name k ns ps).left ≡ points ns ps
  -- vulcedar_point_undo and vulcedar_point_back, which never write the entries
  pub point-undo : (p st : List ℕ) (es : List Entry) (k : ℕ) (ns ps : List ℕ) → ((point_undo_own p st es k ns ps).number ≡ 0 → ⊥) →
      ((point_undo_own p st es k ns ps).state ≡ st) × ((point_undo_own p st es k ns ps).count ≡ k) × ((point_undo_own p st es k ns ps).left ≡ points ns ps)
  pub point-back : (p name st : List ℕ) (es : List Entry) (k : ℕ) (ns ps : List ℕ) → ((point_back_own p name st es k ns ps).number ≡ 0 → ⊥) →
      ((point_back_own p name st es k ns ps).state ≡ st) × ((point_back_own p name st es k ns ps).count ≡ k) × ((point_back_own p name st es k ns ps).left ≡ points ns ps)
  -- vulcedar_central
  pub central : (p : List ℕ) (code node : ℕ) (m k : List ℕ) → (rule_number p code node m k ≡ 0 → ⊥) →
      ((rule_of p code node m k).marks ≡ m) × ((rule_of p code node m k).notes ≡ k)
  -- vulcedar_pass
  pub pass : (p a m : List ℕ) → ((pass_into p a m).number ≡ 0 → ⊥) → (pass_into p a m).marks ≡ m
  -- vulcedar_impact
  pub impact : (p a m : List ℕ) (t x : ℕ) → ((impact_into p a m t x).number ≡ 0 → ⊥) → (impact_into p a m t x).marks ≡ m
  -- vulcedar_way
  pub way : (p : List ℕ) (v m e : ℕ) (a : List ℕ) → ((way_into p v m e a).number ≡ 0 → ⊥) → (way_into p v m e a).answers ≡ a
  -- vulcedar_pass_record
  pub pass-record : (p tab a m c : List ℕ) → ((pass_record_into p tab a m c).number ≡ 0 → ⊥) →
      ((pass_record_into p tab a m c).marks ≡ m) × ((pass_record_into p tab a m c).classes ≡ c)
  -- vulcedar_record
  pub end-record : (p st m c : List ℕ) → ((record_into p st m c).number ≡ 0 → ⊥) → ((record_into p st m c).marks ≡ m) × ((record_into p st m c).classes ≡ c)
  -- vulcedar_record_by
  pub end-record-by : (p tab st m c : List ℕ) → ((record_by_into p tab st m c).number ≡ 0 → ⊥) →
      ((record_by_into p tab st m c).marks ≡ m) × ((record_by_into p tab st m c).classes ≡ c)
  -- N6: vulcedar_desk_step
  pub desk-step : (p : List ℕ) (code node : ℕ) (row : List ℕ) → (desk_event_number p code node row ≡ 0 → ⊥) → (desk_step_of p code node row).row ≡ row
  -- N6: vulcedar_desk_simulate
  pub desk-simulate : (p : List ℕ) (code node d : ℕ) (st : List ℕ) → (desk_simulate_number p code node d st ≡ 0 → ⊥) → (desk_simulate_of p code node d st).state ≡ st
  -- N6: vulcedar_desk_keep
  pub desk-keep : (p st : List ℕ) (es : List Entry) (k code node d : ℕ) → (desk_keep_number p st es k code node d ≡ 0 → ⊥) →
      ((desk_keep_of p st es k code node d).step.state ≡ st) × ((desk_keep_of p st es k code node d).entries ≡ es) × ((desk_keep_of p st es k code node d).count ≡ k)
  -- N6: vulcedar_desk_undo, vulcedar_desk_point_undo and vulcedar_desk_point_back, which never write the entries
  pub desk-undo : (p st : List ℕ) (es : List Entry) (k : ℕ) → ((desk_undo_of p st es k).number ≡ 0 → ⊥) → ((desk_undo_of p st es k).state ≡ st) × ((desk_undo_of p st es k).count ≡ k)
  pub desk-point-undo : (p st : List ℕ) (es : List Entry) (k : ℕ) (ns ps : List ℕ) → ((desk_point_undo_of p st es k ns ps).number ≡ 0 → ⊥) →
      ((desk_point_undo_of p st es k ns ps).state ≡ st) × ((desk_point_undo_of p st es k ns ps).count ≡ k) × ((desk_point_undo_of p st es k ns ps).left ≡ points ns ps)
  pub desk-point-back : (p name st : List ℕ) (es : List Entry) (k : ℕ) (ns ps : List ℕ) → ((desk_point_back_of p name st es k ns ps).number ≡ 0 → ⊥) →
      ((desk_point_back_of p name st es k ns ps).state ≡ st) × ((desk_point_back_of p name st es k ns ps).count ≡ k) × ((desk_point_back_of p name st es k ns ps).left ≡ points ns ps)
  -- N6: vulcedar_desk_record
  pub desk-record : (p st m c : List ℕ) → ((desk_record_into p st m c).number ≡ 0 → ⊥) → ((desk_record_into p st m c).marks ≡ m) × ((desk_record_into p st m c).classes ≡ c)
  -- N6: vulcedar_desk_record_by
  pub desk-record-by : (p tab st m c : List ℕ) → ((desk_record_by_into p tab st m c).number ≡ 0 → ⊥) →
      ((desk_record_by_into p tab st m c).marks ≡ m) × ((desk_record_by_into p tab st m c).classes ≡ c)
  -- a list of steps in frames, which no C function has
  pub run : (p bs st ns : List ℕ) → ((run_of p bs st ns).number ≡ 0 → ⊥) → ((run_of p bs st ns).state ≡ st) × ((run_of p bs st ns).numbers ≡ ns)
  -- vulcedar_rehearse
  pub text : (t b : List ℕ) → ((run_text_into t b).result.number ≡ 0 → ⊥) → (run_text_into t b).out ≡ b
  -- the text's function for the program, which prints a refusal's number too: a buffer that is too short
  pub printing : (t b : List ℕ) → length b < 16384 → ((rehearse_into t b).place ≡ 0) × ((rehearse_into t b).buffer ≡ b)

-- H0: 0, or a number found behind 7; 22 is found before it
abbrev pub Later : ℕ → Type 0
Later n = 0 < n → (7 < n) × (n ≡ 22 → ⊥)

-- H0 to H7: an accepted plan with right lengths gets none of 1 to 7, and not 22
pub record AcceptedPass (p : List ℕ) : Type 0 where
  -- vulcedar_rewrite
  pub rewrite : (b : List ℕ) → length b ≡ length p → (rewrite_of p b).number ≡ 0
  -- vulcedar_renumber
  pub renumber : (b : List ℕ) → length b ≡ length p → (renumber_of p b).number ≡ 0
  -- vulcedar_to_depths, which answers 18 for a plan that is not in the fixed numbering
  pub to-depths : (b : List ℕ) → length b ≡ length p → (to_depths_of p b).number ≡ cond (in_preorder p) 0 18
  -- vulcedar_repeat
  pub repeat : (v r : ℕ) (b : List ℕ) → length b ≡ 320 → Later (repeat_of p v r b).number
  -- vulcedar_next_plan
  pub next-plan : (b : List ℕ) → length b ≡ 10 → Later (next_of p b).number
  -- vulcedar_workload
  pub workload : (s c : ℕ) (b : List ℕ) → length b ≡ 3 * c → (load_of p s c b).number ≡ 0
  -- vulcedar_check_depths
  pub check-depths : (d : List ℕ) → length d ≡ size p → (depths_of p d).number ≡ 0
  -- vulcedar_guard
  pub guarded : (code node : ℕ) (b : List ℕ) → length (encode (guard p (event_of code node))) ≤ length b → Later (guard_number p code node b)
  -- vulcedar_step
  pub step : (code node : ℕ) (row : List ℕ) → length row ≡ size p → Later (event_number p code node row)
  -- vulcedar_hear
  pub hear : (code node : ℕ) (row : List ℕ) → length row ≡ size p → Later (message_number p code node row)
  -- vulcedar_simulate
  pub simulate : (code node q : ℕ) (st : List ℕ) → length st ≡ size p * size p → Later (simulate_number p code node q st)
  -- vulcedar_keep
  pub keep : (st : List ℕ) (es : List Entry) (k code node q : ℕ) → length st ≡ size p * size p → k < length es → Later (keep_number p st es k code node q)
  -- vulcedar_undo
  pub undo : (st : List ℕ) (es : List Entry) (k : ℕ) → length st ≡ size p * size p → k ≤ length es → Later (undo_own p st es k).number
  -- vulcedar_point_undo
  pub point-undo : (st : List ℕ) (es : List Entry) (k : ℕ) (ns ps : List ℕ) → length st ≡ size p * size p → k ≤ length es → PointsRight ns ps k →
      Later (point_undo_own p st es k ns ps).number
  -- vulcedar_point_back
  pub point-back : (name st : List ℕ) (es : List Entry) (k : ℕ) (ns ps : List ℕ) → length name ≡ 8 → length st ≡ size p * size p → k ≤ length es → PointsRight ns ps k →
      Later (point_back_own p name st es k ns ps).number
  -- vulcedar_central
  pub central : (code node : ℕ) (m k : List ℕ) → length m ≡ size p → length k ≡ size p → Later (rule_number p code node m k)
  -- vulcedar_pass
  pub pass : (a m : List ℕ) → length a ≡ size p → length m ≡ size p → Later (pass_into p a m).number
  -- vulcedar_impact
  pub impact : (a m : List ℕ) (t x : ℕ) → length a ≡ size p → length m ≡ size p → Later (impact_into p a m t x).number
  -- vulcedar_way
  pub way : (v m e : ℕ) (a : List ℕ) → length a ≡ size p → Later (way_into p v m e a).number
  -- vulcedar_pass_record
  pub pass-record : (tab a m c : List ℕ) → length a ≡ size p → length m ≡ size p → length c ≡ size p → Later (pass_record_into p tab a m c).number
  -- vulcedar_record
  pub end-record : (st m c : List ℕ) → length st ≡ size p * size p → length m ≡ size p → length c ≡ size p → (record_into p st m c).number ≡ 0
  -- vulcedar_record_by, which answers the table's number: 0 or 21
  pub end-record-by : (tab st m c : List ℕ) → length st ≡ size p * size p → length m ≡ size p → length c ≡ size p → (record_by_into p tab st m c).number ≡ table_number tab
  -- a list of steps in frames
  pub run : (bs st ns : List ℕ) → length st ≡ size p * size p → length bs % 3 ≡ 0 → length ns ≡ length bs / 3 → (run_of p bs st ns).number ≡ 0

-- H0 to H7, N2, N3, N6: an accepted plan with desks and right lengths gets none of 1 to 7, and not 22
pub record DeskAcceptedPass (p : List ℕ) : Type 0 where
  -- vulcedar_desk_step
  pub step : (code node : ℕ) (row : List ℕ) → length row ≡ nodes p → Later (desk_event_number p code node row)
  -- vulcedar_desk_simulate
  pub simulate : (code node d : ℕ) (st : List ℕ) → length st ≡ desk_rows p * nodes p → Later (desk_simulate_number p code node d st)
  -- vulcedar_desk_keep
  pub keep : (st : List ℕ) (es : List Entry) (k code node d : ℕ) → length st ≡ desk_rows p * nodes p → k < length es → Later (desk_keep_number p st es k code node d)
  -- vulcedar_desk_undo
  pub undo : (st : List ℕ) (es : List Entry) (k : ℕ) → length st ≡ desk_rows p * nodes p → k ≤ length es → Later (desk_undo_of p st es k).number
  -- vulcedar_desk_point_undo
  pub point-undo : (st : List ℕ) (es : List Entry) (k : ℕ) (ns ps : List ℕ) → length st ≡ desk_rows p * nodes p → k ≤ length es → PointsRight ns ps k →
      Later (desk_point_undo_of p st es k ns ps).number
  -- vulcedar_desk_point_back
  pub point-back : (name st : List ℕ) (es : List Entry) (k : ℕ) (ns ps : List ℕ) → length name ≡ 8 → length st ≡ desk_rows p * nodes p → k ≤ length es → PointsRight ns ps k →
      Later (desk_point_back_of p name st es k ns ps).number
  -- vulcedar_desk_record
  pub end-record : (st m c : List ℕ) → length st ≡ desk_rows p * nodes p → length m ≡ nodes p → length c ≡ nodes p → (desk_record_into p st m c).number ≡ 0
  -- vulcedar_desk_record_by, which answers the table's number: 0 or 21
  pub end-record-by : (tab st m c : List ℕ) → length st ≡ desk_rows p * nodes p → length m ≡ nodes p → length c ≡ nodes p → (desk_record_by_into p tab st m c).number ≡ table_number tab

-- A1 to A6, H0 to H7, N2, N6, R9, R10: DEMAND 1
pub record Demand1 : Type 0 where
  -- A1 to A6: the check passes every plan within the limits, and no other
  pub exact : CheckExact
  -- H0 to H7
  pub accepted : (p : List ℕ) → Accepted p → AcceptedPass p
  -- M2, M3: vulcedar_point_name, which takes no plan, with right points
  pub point-name : (name : List ℕ) (k : ℕ) (ns ps : List ℕ) → length name ≡ 8 → k < 18446744073709551615 → PointsRight ns ps k → Later (name_of name k ns ps).number
  -- R9: vulcedar_from_depths, which takes no plan, accepts the depth forms of plans in the fixed numbering, and no others
  pub form-exact : FormExact
  -- R10: and passes them, with right lengths
  pub from-depths : (d b : List ℕ) → form_number d ≡ 0 → length b ≡ length d → (from_depths_of d b).number ≡ 0
  -- N2: the check of plans with desks passes every one within the limits, and no other
  pub desk-exact : DeskCheckExact
  -- N6: and the calls on them
  pub desk-accepted : (p : List ℕ) → DeskAccepted p → DeskAcceptedPass p
  -- H0
  pub refused : RefusalsLeave
