-- The rest of the family says what all of it says. Assumes nothing.
use Rattle.std.proofs.Common.{◌≡◌, ◌-◌}
use Rattle.lists.specs.Seq.{any, keep, up_from}
use Rattle.guard.specs.Family.{in_family, family}
use Rattle.row.specs.Row.{heard_in}
use Rattle.row.proofs.evaluate.any_holds.Given as goal

abbrev pub invariant-loop-c : goal.invariant-loop-c
invariant-loop-c l = any (heard_in l.row l.code) (family l.plan l.u l.skip) ≡ any (heard_in l.row l.code) (keep (in_family l.plan l.u l.skip) (up_from l.c (l.n - l.c)))
