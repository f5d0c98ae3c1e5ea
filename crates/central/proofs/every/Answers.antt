-- Assumes nothing.
use mathlib.Core.Path.{◌∙◌}
use Rattle.plan.specs.Plan.{children}
use Rattle.central.proofs.every.Goals as goal

pub returns : goal.returns
unfolding children
returns c = c.all_marked.ensures ∙ rw c.node_count.ensures
