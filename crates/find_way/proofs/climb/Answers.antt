use Rattle.std.proofs.Common.{arith}
use Rattle.plan.specs.Plan.{parent}
use Rattle.find_way.proofs.TableLaws.{climb-begin, climb-stop, climb-children, climb-small, climb-done, climb-turn, climb-less}
use Rattle.find_way.proofs.climb.Goals as goal

pub loop-table-init : goal.loop-table-init
loop-table-init c = let r = c.requires in climb-begin r.0 r.1 r.2

pub marks_at-m-requires : goal.marks_at-m-requires
marks_at-m-requires c = let h = c.loop-table.invariant in (h.given, h.within, climb-children h)

pub bounds-table-v : goal.bounds-table-v
bounds-table-v c = omega (arith, climb-small c.loop-table.invariant)

pub returns-then-m-table : goal.returns-then-m-table
returns-then-m-table c = climb-stop c.loop-table.invariant _ c.marks_at-m.ensures c.if-m-table.true

pub bounds-table-v-in-loop-table : goal.bounds-table-v-in-loop-table
bounds-table-v-in-loop-table c = omega (arith, climb-small c.loop-table.invariant)

pub returns-then-v-eq0 : goal.returns-then-v-eq0
returns-then-v-eq0 c = climb-done c.loop-table.invariant _ c.marks_at-m.ensures c.if-v-eq0.true

pub overflow_mul-v : goal.overflow_mul-v
overflow_mul-v c = omega (arith, climb-small c.loop-table.invariant)

pub overflow_add-v : goal.overflow_add-v
overflow_add-v c = omega (arith, climb-small c.loop-table.invariant)

pub bounds-quest-v : goal.bounds-quest-v
bounds-quest-v c = let h = c.loop-table.invariant in omega (arith, h.within, h.given.accepted.even)

pub loop-table-smaller : goal.loop-table-smaller
unfolding parent
loop-table-smaller c = rw c.from-v.ensures (climb-less c.loop-table.invariant _ c.marks_at-m.ensures c.if-v-eq0.false)

pub loop-table-preserved : goal.loop-table-preserved
unfolding parent
loop-table-preserved c = climb-turn c.loop-table.invariant _ c.marks_at-m.ensures c.if-v-eq0.false _ c.from-v.ensures
