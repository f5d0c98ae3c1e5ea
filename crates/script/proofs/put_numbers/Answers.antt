use native.Mathlib.Omega.{arith}
use Rattle.lists.proofs.Each.{each_all, each-place, each_turn}
use Rattle.script.proofs.LineLaws.{number-length, numbers-done}
use Rattle.script.proofs.put_numbers.Goals as goal

pub loop-number-init : goal.loop-number-init
loop-number-init c = each_all _ _ _ _

pub put_number-w-requires : goal.put_number-w-requires
put_number-w-requires c = omega (arith, each-place c.loop-number.invariant 3 number-length, c.loop-number.invariant.left.long)

pub loop-number-preserved : goal.loop-number-preserved
loop-number-preserved c = each_turn c.loop-number.invariant c.loop-number-test.true c.put_number-w.ensures

pub shape_of-out : goal.shape_of-out
shape_of-out c = c.loop-number.invariant.left.long

pub returns : goal.returns
returns c = numbers-done c.loop-number.invariant c.loop-number-test.false
