-- The frames before i have been run. Assumes nothing.
use Rattle.simulation.proofs.RunLaws.{Running}
use Rattle.simulation.proofs.run_all.Given as goal

abbrev pub invariant-loop-i : goal.invariant-loop-i
invariant-loop-i l = Running l.plan l.steps l.initial.state l.state l.numbers l.i
