-- The loop has counted the children that the nodes below v need. Assumes nothing.
use Rattle.std.proofs.Common.{◌≡◌}
use Rattle.next_plan.specs.Search.{needed_below}
use Rattle.next_plan.proofs.dead_front.Given as goal

abbrev pub invariant-loop-v : goal.invariant-loop-v
invariant-loop-v l = l.needed ≡ needed_below l.q l.v
