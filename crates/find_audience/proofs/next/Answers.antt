use Rattle.std.proofs.Common.{sym, arith}
use Rattle.plan.specs.Plan.{size, parent}
use Rattle.find_audience.proofs.NextLaws.{seek-begin, seek_found, seek-on, seek-out}
use Rattle.find_audience.proofs.next.Goals as goal

pub loop-c-init : goal.loop-c-init
loop-c-init c = rw c.from-c.ensures (seek-begin _ _ _ _ _ c.node_count-n.ensures)

pub overflow_mul-c : goal.overflow_mul-c
unfolding size
overflow_mul-c c = omega (arith, c.node_count-n.ensures)

pub overflow_add-c : goal.overflow_add-c
unfolding size
overflow_add-c c = omega (arith, c.node_count-n.ensures)

pub bounds-plan-c : goal.bounds-plan-c
unfolding size
bounds-plan-c c = omega (arith, c.node_count-n.ensures)

pub overflow_cast-result : goal.overflow_cast-result
overflow_cast-result c = omega (arith, c.node_count-n.ensures, c.requires)

pub returns-then-plan-c : goal.returns-then-plan-c
unfolding parent
returns-then-plan-c c = sym (seek_found _ _ _ _ _ _ c.loop-c.invariant c.loop-c-test.true c.if-plan-c.true)

pub loop-c-preserved : goal.loop-c-preserved
unfolding parent
loop-c-preserved c = seek-on _ _ _ _ _ _ c.loop-c.invariant c.loop-c-test.true c.if-plan-c.false

pub returns : goal.returns
returns c = sym (seek-out _ _ _ _ _ _ c.loop-c.invariant (omega arith))
