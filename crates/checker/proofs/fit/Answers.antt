-- The check's own fault, or the lengths'. Assumes nothing.
use Rattle.std.proofs.Common.{rules, ◌∙◌}
use Rattle.plan.specs.Check.{fit_number}
use Rattle.fault.proofs.Laws.{handed_on, first-failed}
use Rattle.checker.proofs.fit.Goals as goal

pub returns-in_err-check : goal.returns-in_err-check
unfolding fit_number
returns-in_err-check c = handed_on _ _ c.from_residual.ensures.1 ∙ first-failed _ _ _ c.in_err-check.ensures

pub returns-then-fits : goal.returns-then-fits
unfolding fit_number
returns-then-fits c = search rules

pub returns-else-fits : goal.returns-else-fits
unfolding fit_number
returns-else-fits c = search rules
