-- The state and the numbers stand in the fronts of their buffers; then they are printed. Assumes nothing.
use Rattle.std.proofs.Common.{refl, sym}
use Rattle.fault.proofs.Laws.{fault-some}
use Prim.Native.Nat.{◌*◌, ◌≤◌}
use native.Mathlib.Omega.{arith}
use Rattle.lists.proofs.PutLaws.{put-length}
use Rattle.lists.proofs.Parts.{part_length, back-room, back-length}
use Rattle.script.proofs.SimulationLaws.{cells-few, RunTold, run-told}
use Rattle.script.proofs.ScriptLaws.{refused-is, plan-refused, plan-short, plan-passed, told-accepted, state-long, numbers-place}
use Rattle.script.proofs.run_plan.Goals as goal
use Rattle.script.proofs.run_plan.Lts
use Rattle.script.proofs.run_plan.Tie
use Rattle.script.proofs.run_plan.Reads

cells : (c : Lts.After-node_count Tie.the-claims Reads.Pre Reads.Post Tie.handed_clauses) → c.node_count-n.result * c.node_count-n.result ≤ 25600
cells c = cells-few _ c.requires.plan_len_bound _ c.node_count-n.ensures

told : (c : Lts.Else1 Tie.the-claims Reads.Pre Reads.Post Tie.handed_clauses) →
    RunTold c.args.plan.now c.args.steps.now c.node_count-n.result c.zeros-state.result c.zeros-numbers.result
    0 c.run.new.state c.run.new.numbers
told c =
    run-told c.args.plan.now c.requires.plan_len_bound _ c.node_count-n.ensures _ c.zeros-state.ensures c.args.steps.now _ (sym c.zeros-numbers.ensures.long)
    c.requires.steps_len_bound.0 c.requires.steps_len_bound.1 c.in_ok-run.ensures c.run.auto.state c.run.auto.numbers

pub overflow_mul-cells : goal.overflow_mul-cells
overflow_mul-cells c = omega (arith, cells c.before)

pub slice_bounds-state-end : goal.slice_bounds-state-end
slice_bounds-state-end c = omega (arith, cells c.before.before.before, c.zeros-state.ensures.long)

pub slice_bounds-run-end : goal.slice_bounds-run-end
slice_bounds-run-end c = part_length _ _ (omega (arith, cells c.before.before.before.before, c.zeros-state.ensures.long))

pub slice_bounds-run-end-2 : goal.slice_bounds-run-end-2
slice_bounds-run-end-2 c = part_length _ _ (omega arith)

pub returns-in_err-run : goal.returns-in_err-run
returns-in_err-run c =
    rw (refused-is _ _ c.from_residual.ensures.1)
    (plan-refused
    (run-told c.args.plan.now c.requires.plan_len_bound _ c.node_count-n.ensures _ c.zeros-state.ensures c.args.steps.now _ (sym c.zeros-numbers.ensures.long)
    c.requires.steps_len_bound.0 c.requires.steps_len_bound.1 c.in_err-run.ensures c.run.auto.state c.run.auto.numbers) _ _ (fault-some _))

pub returns-then-out-lt16384 : goal.returns-then-out-lt16384
returns-then-out-lt16384 c =
    plan-short
    (run-told c.args.plan.now c.requires.plan_len_bound _ c.node_count-n.ensures _ c.zeros-state.ensures c.args.steps.now _ (sym c.zeros-numbers.ensures.long)
    c.requires.steps_len_bound.0 c.requires.steps_len_bound.1 c.in_ok-run.ensures c.run.auto.state c.run.auto.numbers) refl _ _ c.if-out-lt16384.true

pub slice_bounds-numbers-end-2 : goal.slice_bounds-numbers-end-2
slice_bounds-numbers-end-2 c = back-room (told c.before).numbers-back

pub slice_bounds-put_numbers-end : goal.slice_bounds-put_numbers-end
slice_bounds-put_numbers-end c = back-length (told c.before.before).numbers-back

pub put_numbers-w-requires : goal.put_numbers-w-requires
put_numbers-w-requires c = let r = c.before.before.before in omega (arith, back-length (told r).numbers-back, c.requires.steps_len_bound.0, c.if-out-lt16384.false)

pub slice_bounds-state-end-2 : goal.slice_bounds-state-end-2
slice_bounds-state-end-2 c = back-room (told c.before.before.before.before.before.before).state-back

pub slice_bounds-put_record-end : goal.slice_bounds-put_record-end
slice_bounds-put_record-end c = back-length (told c.before.before.before.before.before.before.before).state-back

pub put_record-requires : goal.put_record-requires
put_record-requires c =
    let r = c.before.before.before.before.before.before.before.before in
    let q = c.put_numbers-w.ensures in record {
      tab_value = (c.requires.tab_value, told-accepted (told r) refl);
      state_len = state-long (told r);
      at_in_bounds = omega (arith, numbers-place (told r) q, put-length q, c.requires.steps_len_bound.0, c.if-out-lt16384.false);
    }

pub returns : goal.returns
returns c =
    let r = c.before.before.before.before.before.before.before.before.before.before.before in
    plan-passed (told r) refl _ _ c.requires.steps_len_bound.0 (omega (arith, c.if-out-lt16384.false)) c.put_numbers-w.ensures c.put_record.ensures
