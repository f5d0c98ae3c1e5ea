use native.Mathlib.Omega.{arith}
use lib.ListN.{length-set}
use Rattle.text.proofs.PrintLaws.{hex-all, hex-place, hex-turn, hex-done}
use Rattle.text.proofs.write_line.Goals as goal

pub loop-b-init : goal.loop-b-init
loop-b-init c = hex-all _ _ _

pub digit-requires : goal.digit-requires
digit-requires c = omega arith

pub bounds-out-w : goal.bounds-out-w
bounds-out-w c = omega (arith, hex-place c.loop-b.invariant, c.loop-b.invariant.left.long)

pub digit-requires-in-loop-b : goal.digit-requires-in-loop-b
digit-requires-in-loop-b c = omega arith

pub overflow_add-out : goal.overflow_add-out
overflow_add-out c = omega (arith, hex-place c.loop-b.invariant)

pub bounds-out-w-in-loop-b : goal.bounds-out-w-in-loop-b
bounds-out-w-in-loop-b c = simp length-set (omega (arith, hex-place c.loop-b.invariant, c.loop-b.invariant.left.long))

pub overflow_add-w : goal.overflow_add-w
overflow_add-w c = omega (arith, hex-place c.loop-b.invariant)

pub loop-b-preserved : goal.loop-b-preserved
loop-b-preserved c = hex-turn c.loop-b.invariant c.digit.ensures c.digit-in-loop-b.ensures c.loop-b-test.true

pub bounds-out-w-2 : goal.bounds-out-w-2
bounds-out-w-2 c = omega (arith, hex-place c.loop-b.invariant, c.loop-b.invariant.left.long)

pub overflow_add-result : goal.overflow_add-result
overflow_add-result c = omega (arith, hex-place c.loop-b.invariant)

pub shape_of-out : goal.shape_of-out
shape_of-out c = simp length-set c.loop-b.invariant.left.long

pub returns : goal.returns
returns c = hex-done c.loop-b.invariant c.loop-b-test.false
