-- Assumes nothing.
use Rattle.std.proofs.Common.{rules}
use Rattle.plan.specs.Plan.{size}
use Rattle.depth_form.specs.Form.{depth_at}
use Rattle.convert.proofs.depth_at.Goals as goal

pub overflow_mul-v : goal.overflow_mul-v
unfolding size
overflow_mul-v c = search rules

pub overflow_add-v : goal.overflow_add-v
unfolding size
overflow_add-v c = search rules

pub bounds-depths-v : goal.bounds-depths-v
unfolding size
bounds-depths-v c = search rules

pub returns : goal.returns
unfolding depth_at
returns c = c.from.ensures
