-- Assumes nothing.
use Rattle.std.proofs.Common.{ap, ◌∙◌}
use Rattle.results.specs.Result.{result_of}
use Rattle.desk_exports.proofs.vulcedar_desk_check.Goals as goal

pub returns : goal.returns
returns c = c.of_done.ensures ∙ ap (λ n. result_of n 0 0) c.check.ensures
