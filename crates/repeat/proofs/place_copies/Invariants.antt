-- Assumes nothing.
use Rattle.repeat.proofs.CopyLaws.{Copying}
use Rattle.repeat.proofs.place_copies.Given as goal

abbrev pub invariant-loop : goal.invariant-loop
invariant-loop l = Copying l.of.plan.now l.c l.u l.n l.of.times l.initial.out l.out l.w l.counter
