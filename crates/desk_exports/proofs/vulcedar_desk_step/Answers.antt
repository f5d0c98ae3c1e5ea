-- The parts of the contract's one value. Assumes nothing.
use Rattle.std.proofs.Common.{sym, ap, ◌∙◌}
use Rattle.results.specs.Result.{of_verdict}
use Rattle.desk_exports.proofs.vulcedar_desk_step.Goals as goal

pub returns : goal.returns
returns c = let e = sym c.step.ensures in
    record { value = c.of_verdict.ensures ∙ ap (λ s. of_verdict s.verdict) e; row_after = ap (λ s. s.row) e }
