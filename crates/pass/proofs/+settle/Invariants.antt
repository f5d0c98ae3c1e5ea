-- What is left of the node's children says what all of them say; the call of itself is on a higher node. Assumes nothing.
use Prim.Native.Nat.{◌-◌}
use Rattle.plan.specs.Plan.{size}
use Rattle.pass.specs.Values.{mark_byte}
use Rattle.pass.proofs.WalkLaws.{Walking, left}
use Rattle.pass.proofs.+settle.Given as goal

abbrev pub decreases-settle : goal.decreases-settle
decreases-settle l = size l.plan.now - l.node

abbrev pub invariant-loop-c : goal.invariant-loop-c
invariant-loop-c l = Walking l.plan l.answers l.links.first l.links.next l.initial.marks l.node l.kind l.answer l.marks (mark_byte l.state) l.places l.c

abbrev pub decreases-loop-c : goal.decreases-loop-c
decreases-loop-c l = left (size l.plan) l.c
