use mathlib.Core.Path.{refl}
use native.Mathlib.Omega.{arith}
use Rattle.convert.proofs.ClimbLaws.{climb-less, climb-turn, climb-done}
use Rattle.convert.proofs.is_above.Goals as goal

pub loop-w-init : goal.loop-w-init
loop-w-init c = record { within = c.requires.1; same = refl }

pub parent_at-w-requires : goal.parent_at-w-requires
parent_at-w-requires c = c.loop-w.invariant.within

pub loop-w-smaller : goal.loop-w-smaller
loop-w-smaller c = omega (arith, c.parent_at-w.ensures, climb-less c.requires.0 c.loop-w.invariant c.loop-w-test.true)

pub loop-w-preserved : goal.loop-w-preserved
loop-w-preserved c = rw c.parent_at-w.ensures (climb-turn c.requires.0 c.loop-w.invariant c.loop-w-test.true)

pub returns : goal.returns
returns c = climb-done c.requires.0 c.loop-w.invariant c.loop-w-test.false
