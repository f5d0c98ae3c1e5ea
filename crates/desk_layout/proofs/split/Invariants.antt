-- The nodes below v are split. Assumes nothing.
use Rattle.desk_layout.proofs.SplitLaws.{Splitting}
use Rattle.desk_layout.proofs.split.Given as goal

abbrev pub invariant-loop-v : goal.invariant-loop-v
invariant-loop-v l = Splitting l.plan l.two l.row l.top l.v
