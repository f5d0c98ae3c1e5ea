-- The answer's number and rule, packed. Assumes nothing.
use Rattle.std.proofs.Common.{sym, ap, ◌∙◌}
use Rattle.results.specs.Result.{of_found_rule}
use Rattle.site_exports.proofs.vulcedar_rule.Goals as goal

pub returns : goal.returns
unfolding of_found_rule
returns c = c.of_value.ensures ∙ ap of_found_rule (sym c.rule.ensures)
