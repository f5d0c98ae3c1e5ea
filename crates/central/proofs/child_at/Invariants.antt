-- What is left of the children has at the place that is left what all have at k. Assumes nothing.
use mathlib.Core.Path.{◌≡◌}
use lib.ListN.{get_or}
use Rattle.plan.specs.Plan.{children}
use Rattle.central.proofs.ScanLaws.{kids}
use Rattle.central.proofs.child_at.Given as goal

abbrev pub invariant-loop-c : goal.invariant-loop-c
invariant-loop-c l = get_or (children l.plan l.u) l.k 0 ≡ get_or (kids l.plan l.u l.n l.c) l.left 0
