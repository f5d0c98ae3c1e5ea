-- The slots before i are as they will be, the others as they were. Assumes nothing.
use Rattle.points.proofs.DropLaws.{Dropping}
use Rattle.points.proofs.drop_past.Given as goal

abbrev pub invariant-loop-i : goal.invariant-loop-i
invariant-loop-i l = Dropping l.count l.initial.names l.initial.places l.names l.places l.i
