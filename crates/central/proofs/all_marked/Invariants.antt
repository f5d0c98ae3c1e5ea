-- What is left of the children says what all of them say. Assumes nothing.
use mathlib.Core.Path.{◌≡◌}
use Rattle.lists.specs.Seq.{all}
use Rattle.plan.specs.Plan.{children_below}
use Rattle.central.specs.Scan.{mark_in}
use Rattle.central.proofs.ScanLaws.{kids}
use Rattle.central.proofs.all_marked.Given as goal

abbrev pub invariant-loop-c : goal.invariant-loop-c
invariant-loop-c l = all (mark_in l.set l.marks) (children_below l.plan l.below l.u) ≡ all (mark_in l.set l.marks) (kids l.plan l.u l.below l.c)
