-- The bytes below i are written so far. Assumes nothing.
use lib.ListN.{length}
use Rattle.lists.proofs.Filling.{Filling}
use Rattle.rewrite.specs.Rewrite.{rewritten_byte}
use Rattle.rewrite.proofs.write.Given as goal

abbrev pub invariant-loop-i : goal.invariant-loop-i
invariant-loop-i l = Filling (rewritten_byte l.plan) (length l.plan) l.out l.i
