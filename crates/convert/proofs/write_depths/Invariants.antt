-- The invariant is `Deepening` of proofs/DepthsLaws.antt. Assumes nothing.
use Rattle.convert.proofs.DepthsLaws.{Deepening}
use Rattle.convert.proofs.write_depths.Given as goal

abbrev pub invariant-loop-v : goal.invariant-loop-v
invariant-loop-v l = Deepening l.plan l.out l.v
