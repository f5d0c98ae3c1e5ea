-- Assumes nothing.
use borrow.Author.Rules.{rules}
use Rattle.plan.specs.Plan.{size, kind_byte}
use Rattle.checker.proofs.kind_at.Goals as goal

pub overflow_mul-result : goal.overflow_mul-result
unfolding size
overflow_mul-result c = search rules

pub bounds-plan-v : goal.bounds-plan-v
unfolding size
bounds-plan-v c = search rules

pub returns : goal.returns
unfolding kind_byte
returns c = search rules
