-- The invariant is `Climbing` of proofs/ClimbLaws.antt. Assumes nothing.
use Rattle.convert.proofs.ClimbLaws.{Climbing}
use Rattle.convert.proofs.is_above.Given as goal

abbrev pub invariant-loop-w : goal.invariant-loop-w
invariant-loop-w l = Climbing l.plan l.u l.v l.w

abbrev pub decreases-loop-w : goal.decreases-loop-w
decreases-loop-w l = l.w
