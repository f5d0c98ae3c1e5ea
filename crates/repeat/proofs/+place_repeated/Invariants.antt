-- As `place`, but for the marked node, where the copies are all that is below it. Assumes nothing.
use Prim.Native.Nat.{◌-◌}
use lib.ListN.{length}
use Rattle.plan.specs.Plan.{size}
use Rattle.links.specs.Links.{led_to}
use Rattle.template.specs.Repeat.{repeated_below}
use Rattle.placing.proofs.PlaceLaws.{Walking}
use Rattle.repeat.proofs.+place_repeated.Given as goal

abbrev pub decreases-place_repeated : goal.decreases-place_repeated
decreases-place_repeated l = size l.of.plan.now - l.v

abbrev pub invariant-loop-c : goal.invariant-loop-c
invariant-loop-c l = Walking l.of.plan.now (repeated_below l.of.plan.now l.of.marked l.of.times) l.initial.out l.v l.n l.out l.w l.c

abbrev pub decreases-loop-c : goal.decreases-loop-c
decreases-loop-c l = length (led_to l.of.plan.now l.v l.c)
