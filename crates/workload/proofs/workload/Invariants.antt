-- The loop has written the first i steps (`Loading` of proofs/StepLaws.antt). Assumes nothing.
use Rattle.plan.specs.Plan.{size}
use Rattle.workload.proofs.StepLaws.{Loading}
use Rattle.workload.proofs.workload.Given as goal

abbrev pub invariant-loop-i : goal.invariant-loop-i
invariant-loop-i l = Loading (size l.plan) l.count l.seed l.initial.out l.out l.s l.i
