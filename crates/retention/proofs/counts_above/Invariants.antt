-- The nodes left above u, with what those up to u left, say what all nodes above v say. Assumes nothing.
use Rattle.std.proofs.Common.{◌-◌}
use Rattle.retention.proofs.AboveLaws.{Above}
use Rattle.retention.proofs.counts_above.Given as goal

abbrev pub invariant-loop : goal.invariant-loop
invariant-loop l = Above l.plan l.marks l.v l.least l.u (l.v - l.counter)
