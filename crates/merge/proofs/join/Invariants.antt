-- Below i the row is merged and what was new is counted; from i on it is as it was. Assumes nothing.
use Rattle.merge.proofs.JoinLaws.{Joining}
use Rattle.merge.proofs.join.Given as goal

abbrev pub invariant-loop-i : goal.invariant-loop-i
invariant-loop-i l = Joining l.initial.row l.other l.row l.new l.i
