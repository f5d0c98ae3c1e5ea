-- The loop knows whether each line below v passed. Assumes nothing.
use mathlib.Core.Path.{◌≡◌}
use Prim.Native.Nat.{◌≤◌}
use Rattle.lists.specs.Seq.{all_below}
use Rattle.plan.specs.Plan.{size}
use Rattle.depth_form.specs.Form.{level_ok}
use Rattle.convert.proofs.levels_ok.Given as goal

abbrev pub invariant-loop-v : goal.invariant-loop-v
invariant-loop-v l = (l.v ≤ size l.depths) × (l.ok ≡ all_below (level_ok l.depths) l.v)
