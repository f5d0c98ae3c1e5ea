-- The classes below v are written so far. Assumes nothing.
use Rattle.lists.proofs.Filling.{Filling}
use Rattle.plan.specs.Plan.{size}
use Rattle.retention.specs.Record.{class}
use Rattle.retention.proofs.classify.Given as goal

abbrev pub invariant-loop-v : goal.invariant-loop-v
invariant-loop-v l = Filling (class l.plan l.table l.marks) (size l.plan) l.out l.v
