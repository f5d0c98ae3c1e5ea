-- The slots before i fit. Assumes nothing.
use Rattle.points.proofs.FitLaws.{Fitting}
use Rattle.points.proofs.slots_fit.Given as goal

abbrev pub invariant-loop-i : goal.invariant-loop-i
invariant-loop-i l = Fitting l.names l.places l.count l.i
