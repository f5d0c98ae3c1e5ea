-- Assumes nothing.
use Rattle.std.proofs.Common.{rules}
use Rattle.plan.specs.Plan.{size, parent}
use Rattle.checker.proofs.parent_at.Goals as goal

pub overflow_mul-v : goal.overflow_mul-v
unfolding size
overflow_mul-v c = search rules

pub overflow_add-v : goal.overflow_add-v
unfolding size
overflow_add-v c = search rules

pub bounds-plan-v : goal.bounds-plan-v
unfolding size
bounds-plan-v c = search rules

pub returns : goal.returns
unfolding parent
returns c = c.from.ensures
