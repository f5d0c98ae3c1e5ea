-- The count and nothing, one clause, or one for each of cs. The loop's invariant: what is left of cs gives, from w on, what all of it gives from
-- where it began. Assumes nothing.
use Rattle.std.proofs.Common.{◌≤◌, length, drop}
use Rattle.guard.specs.Put.{codes_of, each_clause}
use Rattle.lists.proofs.PutLaws.{Left}
use Rattle.writer.proofs.put.put_first.Given as goal

abbrev pub invariant-loop-c : goal.invariant-loop-c
invariant-loop-c l = (l.c-index ≤ length l.cs) × Left (each_clause (codes_of l.code l.n) (drop l.c-index l.cs)) (each_clause (codes_of l.code l.n) l.cs) l.initial.buf l.initial.w l.buf l.w
