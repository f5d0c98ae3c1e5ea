use Rattle.std.proofs.Common.{sym, arith}
use Rattle.plan.specs.Plan.{size, parent}
use Rattle.row.proofs.EvaluateLaws.{search-begin, search-found, search-on, search-skip, search-out}
use Rattle.row.proofs.evaluate.before_or_last.Goals as goal
use Rattle.row.proofs.evaluate.before_or_last.Goals.{then-plan-c+else-c-stop, else-plan-c}

pub loop-c-init : goal.loop-c-init
loop-c-init c = search-begin _ _ _ _ _ c.node_count-n.ensures

pub overflow_mul-c : goal.overflow_mul-c
unfolding size
overflow_mul-c c = omega (arith, c.node_count-n.ensures)

pub overflow_add-c : goal.overflow_add-c
unfolding size
overflow_add-c c = omega (arith, c.node_count-n.ensures)

pub bounds-plan-c : goal.bounds-plan-c
unfolding size
bounds-plan-c c = omega (arith, c.node_count-n.ensures)

pub returns-then-c-stop : goal.returns-then-c-stop
unfolding parent
returns-then-c-stop c = let t = c.before.before.before.before in
    sym (search-found _ _ _ _ _ _ _ t.loop-c.invariant t.loop-c-test.true c.if-plan-c.true c.if-c-stop.true)

pub loop-c-preserved : goal.loop-c-preserved
unfolding parent
loop-c-preserved c = let t = c.before.before.before in
    let l = t.loop-c.invariant in
    let i = t.loop-c-test.true in
    elim c.if-plan-c.branch [ then-plan-c+else-c-stop w ↦ rw w.d-is (search-on _ _ _ _ _ _ _ l i w.if-plan-c.true w.if-c-stop.false) | else-plan-c w ↦ rw w.d-is (search-skip _ _ _ _ _ _ _ l i w.if-plan-c.false) ]

pub returns : goal.returns
returns c = sym (search-out _ _ _ _ _ _ _ c.loop-c.invariant c.loop-c-test.false)
