-- The tests in order, and then the change. Assumes nothing.
use Rattle.std.proofs.Common.{refl, ◌∙◌, arith}
use Rattle.fault.proofs.Laws.{fault-some, handed_on}
use Rattle.impact.proofs.ChangeLaws.{impact-unfit, impact-ready, impact-no-node, impact-changeable, impact-no-task, impact-change, no-task, a-task}
use Rattle.impact.proofs.impact.Goals as goal

pub returns-in_err-fit : goal.returns-in_err-fit
returns-in_err-fit c = rw (handed_on _ _ c.from_residual.ensures.1) (impact-unfit _ _ _ _ _ _ _ c.node_count-n.ensures c.in_err-fit.ensures (fault-some _))

pub returns-then-n-t : goal.returns-then-n-t
returns-then-n-t c = impact-no-node _ _ _ _ _ _ _ c.node_count-n.ensures c.in_ok-fit.ensures refl c.if-n-t.true

pub bounds-plan-t : goal.bounds-plan-t
bounds-plan-t c =
    let r = impact-ready c.args.plan.now c.args.answers.now c.args.marks.now 0 0 _ _ c.node_count-n.ensures c.in_ok-fit.ensures refl in
    omega (arith, r.accepted.even, c.node_count-n.ensures, c.if-n-t.false)

pub returns-then-ne : goal.returns-then-ne
returns-then-ne c = impact-no-task _ _ _ _ _ _ _ c.node_count-n.ensures c.in_ok-fit.ensures refl (omega (arith, c.if-n-t.false))
    (no-task _ _ _ c.from.ensures _ c.ne.ensures c.if-ne.true)

pub change-requires : goal.change-requires
change-requires c =
    let r = impact-ready c.args.plan.now c.args.answers.now c.args.marks.now 0 0 _ _ c.node_count-n.ensures c.in_ok-fit.ensures refl in
    (impact-changeable c.args.plan.now c.args.answers.now c.args.marks.now c.args.task 0 _ _ c.node_count-n.ensures c.in_ok-fit.ensures refl (omega (arith, c.if-n-t.false)), r.marks)

pub returns : goal.returns
returns c = impact-change _ _ _ _ _ _ _ c.node_count-n.ensures c.in_ok-fit.ensures refl (omega (arith, c.if-n-t.false))
    (a-task _ _ _ c.from.ensures _ c.ne.ensures c.if-ne.false) ∙ c.change.ensures
