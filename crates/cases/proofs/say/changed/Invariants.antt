-- The last change stands before the byte that is read. Assumes nothing.
use Rattle.std.proofs.Common.{◌≤◌}
use Rattle.cases.proofs.say.changed.Given as goal

abbrev pub invariant-loop-i : goal.invariant-loop-i
invariant-loop-i l = l.last ≤ l.i
