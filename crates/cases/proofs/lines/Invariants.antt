-- What is left of the text is no longer than the buffer, and shorter each time. Assumes nothing.
use Rattle.std.proofs.Common.{length, ◌≤◌}
use Rattle.cases.proofs.lines.Given as goal

abbrev pub invariant-loop-noted : goal.invariant-loop-noted
invariant-loop-noted l = length l.rest ≤ 65536

abbrev pub decreases-loop-noted : goal.decreases-loop-noted
decreases-loop-noted l = length l.rest
