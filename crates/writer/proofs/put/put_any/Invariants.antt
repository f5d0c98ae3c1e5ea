-- The loop's invariant: what is left of cs gives, from w on, what all of it gives from where it began. Assumes nothing.
use Rattle.std.proofs.Common.{◌≤◌, length, drop}
use Rattle.guard.specs.Put.{any_pairs}
use Rattle.lists.proofs.PutLaws.{Left}
use Rattle.writer.proofs.put.put_any.Given as goal

abbrev pub invariant-loop-c : goal.invariant-loop-c
invariant-loop-c l = (l.c-index ≤ length l.cs) × Left (any_pairs l.code (drop l.c-index l.cs)) (any_pairs l.code l.cs) l.initial.buf l.initial.w l.buf l.w
