-- The record's marks and classes stand in the fronts of the two buffers. Assumes nothing.
use Rattle.std.proofs.Common.{sym, ◌∙◌}
use Prim.Native.Nat.{◌≤◌}
use native.Mathlib.Omega.{arith}
use Rattle.lists.proofs.Parts.{part_length, back_is, back-room, back-length}
use Rattle.script.proofs.LineLaws.{record-put}
use Rattle.script.proofs.SimulationLaws.{plan-few, RecordTold, record-told}
use Rattle.script.proofs.put_record.Goals as goal
use Rattle.script.proofs.put_record.Lts
use Rattle.script.proofs.put_record.Tie
use Rattle.script.proofs.put_record.Reads

few : (c : Lts.After-zeros2 Tie.the-claims Reads.Pre Reads.Post Tie.handed_clauses) → c.node_count-n.result ≤ 160
few c = omega (arith, c.node_count-n.ensures, plan-few _ c.requires.tab_value.1)

told : (c : Lts.After-record_by Tie.the-claims Reads.Pre Reads.Post Tie.handed_clauses) →
    RecordTold c.args.plan.now c.args.tab.now c.args.state.now c.node_count-n.result c.zeros-marks.result c.zeros-classes.result c.record_by.new.marks c.record_by.new.classes
told c =
    record-told c.args.plan.now c.args.tab.now c.args.state.now c.requires.tab_value.0 c.requires.tab_value.1 c.requires.state_len _ c.node_count-n.ensures _ _
    (sym c.zeros-marks.ensures.long) (sym c.zeros-classes.ensures.long) _ _ _ c.record_by.ensures

pub slice_bounds-marks-end : goal.slice_bounds-marks-end
slice_bounds-marks-end c = omega (arith, few c.before)

pub slice_bounds-record_by-end : goal.slice_bounds-record_by-end
slice_bounds-record_by-end c = part_length _ _ (omega (arith, few c.before.before))

pub slice_bounds-classes-end : goal.slice_bounds-classes-end
slice_bounds-classes-end c = omega (arith, few c.before.before)

pub slice_bounds-record_by-end-2 : goal.slice_bounds-record_by-end-2
slice_bounds-record_by-end-2 c = part_length _ _ (omega (arith, few c.before.before.before))

pub slice_bounds-marks-end-2 : goal.slice_bounds-marks-end-2
slice_bounds-marks-end-2 c = back-room (told c.before.before.before).marks-back

pub slice_bounds-put_nodes-end : goal.slice_bounds-put_nodes-end
slice_bounds-put_nodes-end c = back-length (told c.before.before.before.before).marks-back

pub slice_bounds-classes-end-2 : goal.slice_bounds-classes-end-2
slice_bounds-classes-end-2 c = back-room (told c.before.before.before.before).classes-back

pub slice_bounds-put_nodes-end-2 : goal.slice_bounds-put_nodes-end-2
slice_bounds-put_nodes-end-2 c = back-length (told c.before.before.before.before.before).classes-back

pub put_nodes-requires : goal.put_nodes-requires
put_nodes-requires c = let f = plan-few _ c.requires.tab_value.1 in
    record { plan_bound = f; plan_in_bounds = omega (arith, f) }

pub returns : goal.returns
returns c =
    let t = told c.before.before.before.before.before.before.before.before.before in
    record-put _ _ (back_is t.marks-back ∙ t.marks) (back_is t.classes-back ∙ t.classes) c.put_nodes.ensures
