use Rattle.std.proofs.Common.{zero-add, arith, rules, eq-eqb, ne_eqb}
use Rattle.plan.specs.Plan.{size, parent}
use Rattle.guard.proofs.FamilyLaws.{kept, skipped, kept-room, all-kept}
use Rattle.find_audience.proofs.NextLaws.{children-begin}
use Rattle.find_audience.proofs.gather.Goals as goal
use Rattle.find_audience.proofs.gather.Goals.{then-plan-c, else-plan-c}

pub loop-c-init : goal.loop-c-init
loop-c-init c = (search rules, children-begin _ _ _ _ c.node_count-n.ensures)

pub overflow_mul-c : goal.overflow_mul-c
overflow_mul-c c = omega (arith, c.node_count-n.ensures)

pub overflow_add-c : goal.overflow_add-c
overflow_add-c c = omega (arith, c.node_count-n.ensures)

pub bounds-plan-c : goal.bounds-plan-c
unfolding size
bounds-plan-c c = omega (arith, c.node_count-n.ensures)

pub overflow_cast-buf : goal.overflow_cast-buf
overflow_cast-buf c = omega (arith, c.node_count-n.ensures)

pub bounds-buf-w : goal.bounds-buf-w
unfolding parent
bounds-buf-w c = let t = c.before.before.before in
    kept-room _ _ _ t.loop-c.invariant.1 t.loop-c-test.true (eq-eqb _ _ c.if-plan-c.true) (rw zero-add t.requires.u_in_bounds)

pub loop-c-preserved : goal.loop-c-preserved
unfolding parent
loop-c-preserved c = let t = c.before.before.before in
    let l = t.loop-c.invariant.1 in
    let i = t.loop-c-test.true in
    elim c.if-plan-c.branch [ then-plan-c w ↦ (search rules, rw (w.buf-is, w.w-is) (kept _ _ _ l i (eq-eqb _ _ w.if-plan-c.true))) | else-plan-c w ↦ (search rules, rw (w.buf-is, w.w-is) (skipped _ _ _ l i (ne_eqb _ _ w.if-plan-c.false))) ]

pub shape_of-buf : goal.shape_of-buf
shape_of-buf c = c.loop-c.invariant.1.long

pub returns : goal.returns
returns c = all-kept _ _ _ c.loop-c.invariant.1 c.loop-c-test.false
