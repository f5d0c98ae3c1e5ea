-- The loop knows whether each node below v passed. Assumes nothing.
use mathlib.Core.Path.{◌≡◌}
use Prim.Native.Nat.{◌≤◌}
use Rattle.lists.specs.Seq.{all_below}
use Rattle.plan.specs.Plan.{size}
use Rattle.plan.specs.Check.{count_ok}
use Rattle.checker.proofs.counts_match.Given as goal

abbrev pub invariant-loop-v : goal.invariant-loop-v
invariant-loop-v l = (l.v ≤ size l.plan) × (l.ok ≡ all_below (count_ok l.plan) l.v)
