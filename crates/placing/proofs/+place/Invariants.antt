-- What is left of the children says where the tree ends; the call of itself is on a higher node. Assumes nothing.
use Prim.Native.Nat.{◌-◌}
use lib.ListN.{length}
use Rattle.plan.specs.Plan.{size}
use Rattle.links.specs.Links.{led_to}
use Rattle.trees.specs.Tree.{trees_below}
use Rattle.placing.proofs.PlaceLaws.{Walking}
use Rattle.placing.proofs.+place.Given as goal

abbrev pub decreases-place : goal.decreases-place
decreases-place l = size l.plan.now - l.v

abbrev pub invariant-loop-c : goal.invariant-loop-c
invariant-loop-c l = Walking l.plan (trees_below l.plan) l.initial.out l.v l.n l.out l.w l.c

abbrev pub decreases-loop-c : goal.decreases-loop-c
decreases-loop-c l = length (led_to l.plan l.v l.c)
