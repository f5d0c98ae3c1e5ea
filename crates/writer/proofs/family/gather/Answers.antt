use Rattle.std.proofs.Common.{zero-add, arith, rules}
use Rattle.plan.specs.Plan.{size, parent}
use Rattle.guard.proofs.FamilyLaws.{family-begin, family-yes, family-left, family-no, kept, skipped, kept-room, all-kept}
use Rattle.writer.proofs.family.gather.Goals as goal
use Rattle.writer.proofs.family.gather.Goals.{then-plan-c+then-c-skip, else-plan-c, else-plan-c-via-then-plan-c+else-c-skip, else-plan-c-via-else-plan-c}

pub loop-c-init : goal.loop-c-init
loop-c-init c = (search rules, family-begin _ _ _ _ _ c.node_count-n.ensures)

pub overflow_mul-c : goal.overflow_mul-c
overflow_mul-c c = omega (arith, c.node_count-n.ensures)

pub overflow_add-c : goal.overflow_add-c
overflow_add-c c = omega (arith, c.node_count-n.ensures)

pub bounds-plan-c : goal.bounds-plan-c
unfolding size
bounds-plan-c c = omega (arith, c.node_count-n.ensures)

pub overflow_cast-c : goal.overflow_cast-c
overflow_cast-c c = omega (arith, c.node_count-n.ensures)

pub overflow_cast-cs : goal.overflow_cast-cs
overflow_cast-cs c = omega (arith, c.node_count-n.ensures)

pub bounds-cs-w : goal.bounds-cs-w
unfolding parent
bounds-cs-w c =
    kept-room _ _ _ c.loop-c.invariant.1 c.loop-c-test.true (family-yes _ _ _ _ c.if-plan-c.true c.if-c-skip.true) (rw zero-add c.requires.skip_in_bounds)

pub loop-c-preserved : goal.loop-c-preserved
unfolding parent
loop-c-preserved c =
    let l = c.loop-c.invariant.1 in
    let i = c.loop-c-test.true in
    elim c.if-plan-c.branch [ then-plan-c+then-c-skip w ↦ (search rules, rw (w.cs-is, w.w-is) (kept _ _ _ l i (family-yes _ _ _ _ w.if-plan-c.true w.if-c-skip.true))) | else-plan-c w ↦ (search rules, rw (w.cs-is, w.w-is) (elim w.else-plan-c.branch [ else-plan-c-via-then-plan-c+else-c-skip x ↦ skipped _ _ _ l i (family-left _ _ _ _ x.if-c-skip.false) | else-plan-c-via-else-plan-c x ↦ skipped _ _ _ l i (family-no _ _ _ _ x.if-plan-c.false) ])) ]

pub shape_of-cs : goal.shape_of-cs
shape_of-cs c = c.loop-c.invariant.1.long

pub returns : goal.returns
returns c = all-kept _ _ _ c.loop-c.invariant.1 c.loop-c-test.false
