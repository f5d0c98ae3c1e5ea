-- What is left of the children says what all of them say. Assumes nothing.
use mathlib.Core.Path.{◌≡◌}
use Rattle.lists.specs.Seq.{any}
use Rattle.plan.specs.Plan.{children}
use Rattle.central.specs.Scan.{picked_at, besides}
use Rattle.central.proofs.ScanLaws.{kids}
use Rattle.central.proofs.any_picked.Given as goal

abbrev pub invariant-loop-c : goal.invariant-loop-c
invariant-loop-c l = any (picked_at l.notes) (besides l.skip (children l.plan l.u)) ≡ any (picked_at l.notes) (besides l.skip (kids l.plan l.u l.n l.c))
