-- The loop's invariant: the children from c on give, from w on, what all of them give from the front. Assumes nothing.
use Rattle.std.proofs.Common.{◌-◌, ◌≤◌, eqb}
use Rattle.lists.specs.Seq.{keep, up_from}
use Rattle.lists.proofs.PutLaws.{Left}
use Rattle.plan.specs.Plan.{parent, children}
use Rattle.find_audience.proofs.gather.Given as goal

abbrev pub invariant-loop-c : goal.invariant-loop-c
invariant-loop-c l = (l.w ≤ l.c) × Left (keep (λ x. eqb (parent l.plan x) l.u) (up_from l.c (l.n - l.c))) (children l.plan l.u) l.initial.buf l.initial.w l.buf l.w
