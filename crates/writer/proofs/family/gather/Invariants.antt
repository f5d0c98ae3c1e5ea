-- The loop's invariant: the family from c on gives, from w on, what all of them give from the front. Assumes nothing.
use Rattle.std.proofs.Common.{◌-◌, ◌≤◌}
use Rattle.lists.specs.Seq.{keep, up_from}
use Rattle.lists.proofs.PutLaws.{Left}
use Rattle.guard.specs.Family.{in_family, family}
use Rattle.writer.proofs.family.gather.Given as goal

abbrev pub invariant-loop-c : goal.invariant-loop-c
invariant-loop-c l = (l.w ≤ l.c) × Left (keep (in_family l.plan l.u l.skip) (up_from l.c (l.n - l.c))) (family l.plan l.u l.skip) l.initial.cs l.initial.w l.cs l.w
