-- The invariant is `Following` of proofs/ClimbLaws.antt. Assumes nothing.
use Rattle.convert.proofs.ClimbLaws.{Following}
use Rattle.convert.proofs.in_preorder.Given as goal

abbrev pub invariant-loop-v : goal.invariant-loop-v
invariant-loop-v l = Following l.plan l.v
