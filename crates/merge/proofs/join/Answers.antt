use Rattle.std.proofs.Common.{refl, arith}
use Rattle.merge.proofs.JoinLaws.{join-none, join-turn, join-done, join-count}
use Rattle.merge.proofs.join.Goals as goal

pub loop-i-init : goal.loop-i-init
loop-i-init c = join-none _ _

pub bounds-row-i : goal.bounds-row-i
bounds-row-i c = omega (arith, c.loop-i.invariant.long, c.loop-i-test.true, c.requires.row_len)

pub overflow_add-new : goal.overflow_add-new
overflow_add-new c =
    let t = c.loop-i.invariant in
    record { fits = omega (arith, t.few, t.within, c.new_bits-new.ensures.upper_bound, c.requires.row_len_bound) }

pub bounds-row-i-in-loop-i : goal.bounds-row-i-in-loop-i
bounds-row-i-in-loop-i c = omega (arith, c.loop-i.invariant.long, c.loop-i-test.true, c.requires.row_len)

pub bounds-row-i-in-loop-i-2 : goal.bounds-row-i-in-loop-i-2
bounds-row-i-in-loop-i-2 c = omega (arith, c.loop-i.invariant.long, c.loop-i-test.true, c.requires.row_len)

pub loop-i-preserved : goal.loop-i-preserved
loop-i-preserved c =
    join-turn _ _ _ _ _ _ _ c.loop-i.invariant
    (omega (arith, c.loop-i-test.true, c.requires.row_len))
    c.new_bits-new.ensures.value refl

pub shape_of-row : goal.shape_of-row
shape_of-row c = c.loop-i.invariant.long

pub returns : goal.returns
returns c = record { row_after = join-done _ _ _ _ _ c.loop-i.invariant (omega arith); value = join-count _ _ _ _ _ c.loop-i.invariant (omega arith) }
