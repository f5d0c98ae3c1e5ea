-- The search from c on finds what the whole search finds. Assumes nothing.
use Rattle.row.proofs.EvaluateLaws.{Search}
use Rattle.row.proofs.evaluate.before_or_last.Given as goal

abbrev pub invariant-loop-c : goal.invariant-loop-c
invariant-loop-c l = Search l.plan l.u l.v l.stop l.n l.c l.d
