-- The loop has lowered the bytes from place i on (`Lowered` of proofs/LowerLaws.antt). Assumes nothing.
use Rattle.std.proofs.Common.{length}
use Rattle.next_plan.proofs.LowerLaws.{Lowered}
use Rattle.next_plan.proofs.advance.Given as goal

abbrev pub invariant-loop-i : goal.invariant-loop-i
invariant-loop-i l = Lowered (length l.initial.q) l.k l.initial.q l.q l.i
