-- The search from c on finds what the whole search finds. Assumes nothing.
use Rattle.find_audience.proofs.NextLaws.{Seek}
use Rattle.find_audience.proofs.next.Given as goal

abbrev pub invariant-loop-c : goal.invariant-loop-c
invariant-loop-c l = Seek l.plan l.u l.from l.d l.n l.c
