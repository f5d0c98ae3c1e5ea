-- The loop's invariant: d stands before what is left of cs, and the search there finds what the whole search finds. Assumes nothing.
use Rattle.std.proofs.Common.{◌≡◌, ◌≤◌, length, drop}
use Rattle.guard.specs.Guard.{before_in}
use Rattle.writer.proofs.fill.before.Given as goal

abbrev pub invariant-loop-c : goal.invariant-loop-c
invariant-loop-c l = (l.c-index ≤ length l.cs) × (before_in l.v l.cs l.v ≡ before_in l.d (drop l.c-index l.cs) l.v)
