-- The check, the row's length, the event, and then the decision. Assumes nothing.
use Rattle.std.proofs.Common.{sym, arith}
use Rattle.fault.proofs.Laws.{fault-some}
use Rattle.desks.proofs.DeskLaws.{check-accepts}
use Rattle.desk_layout.proofs.PrepareLaws.{front-is, front_length, front-room}
use Rattle.desk_calls.proofs.CallLaws.{step-refused, step-wrong, step-fault, step_ok, step-decided}
use Rattle.desk_calls.proofs.step.Goals as goal

pub returns-in-Err : goal.returns-in-Err
returns-in-Err c = rw c.from.ensures (step-refused _ _ c.in-Err.ensures.number_value (fault-some _) _ _ _)

pub returns-then-row-n : goal.returns-then-row-n
returns-then-row-n c = rw c.from-then-row-n.ensures (step-wrong _ _ (check-accepts _ (sym c.in_default.ensures.number_value)) c.in_default.ensures.two_after.0 _ c.node_count-n.ensures _ _ _ c.if-row-n.true)

pub slice_bounds-two-end : goal.slice_bounds-two-end
slice_bounds-two-end c = front-room _ _ c.in_default.ensures.two_after.0 _ c.node_count-n.ensures

pub slice_bounds-two-end-2 : goal.slice_bounds-two-end-2
slice_bounds-two-end-2 c = front_length _ _ c.in_default.ensures.two_after.0 _ c.node_count-n.ensures

pub check-requires : goal.check-requires
check-requires c = let k = (check-accepts _ (sym c.in_default.ensures.number_value)) in rw (front-is _ _ c.in_default.ensures.two_after.0 _ c.node_count-n.ensures) k.accepted.few

pub returns-in-Err-check : goal.returns-in-Err-check
returns-in-Err-check c = rw c.from-in-Err-check.ensures (step-fault _ _ (check-accepts _ (sym c.in_default.ensures.number_value)) c.in_default.ensures.two_after.0 _ c.node_count-n.ensures _ _ _ c.if-row-n.false _ c.in-Err-check.ensures (fault-some _))

pub own_desk-desk-requires : goal.own_desk-desk-requires
own_desk-desk-requires c = ((check-accepts _ (sym c.in_default.ensures.number_value)), front-is _ _ c.in_default.ensures.two_after.0 _ c.node_count-n.ensures)

pub overflow_cast-code : goal.overflow_cast-code
overflow_cast-code c = let k = step_ok _ _ (check-accepts _ (sym c.in_default.ensures.number_value)) c.in_default.ensures.two_after.0 _ c.node_count-n.ensures c.args.code c.args.node c.args.row.now c.if-row-n.false (sym c.in_default-check.ensures) in omega (arith, k.high)

pub overflow_cast-node : goal.overflow_cast-node
overflow_cast-node c = let k = step_ok _ _ (check-accepts _ (sym c.in_default.ensures.number_value)) c.in_default.ensures.two_after.0 _ c.node_count-n.ensures c.args.code c.args.node c.args.row.now c.if-row-n.false (sym c.in_default-check.ensures) in omega (arith, k.node_in, k.plan.few)

pub decide-requires : goal.decide-requires
decide-requires c = let k = step_ok _ _ (check-accepts _ (sym c.in_default.ensures.number_value)) c.in_default.ensures.two_after.0 _ c.node_count-n.ensures c.args.code c.args.node c.args.row.now c.if-row-n.false (sym c.in_default-check.ensures) in (k.plan, k.node_in)

pub returns : goal.returns
returns c = step-decided _ _ (check-accepts _ (sym c.in_default.ensures.number_value)) c.in_default.ensures.two_after.0 _ c.node_count-n.ensures _ _ _ c.if-row-n.false (sym c.in_default-check.ensures) _ c.own_desk-desk.ensures _ c.decide.ensures
