-- The invariant is `Forming` of proofs/FormLaws.antt. Assumes nothing.
use Rattle.convert.proofs.FormLaws.{Forming}
use Rattle.convert.proofs.write_plan.Given as goal

abbrev pub invariant-loop-v : goal.invariant-loop-v
invariant-loop-v l = Forming l.depths l.out l.last l.v
