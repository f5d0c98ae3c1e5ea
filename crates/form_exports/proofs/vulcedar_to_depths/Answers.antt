-- The parts of the contract's one value. Assumes nothing.
use Rattle.std.proofs.Common.{sym, ap, ◌∙◌}
use Rattle.results.specs.Result.{result_of}
use Rattle.form_exports.proofs.vulcedar_to_depths.Goals as goal

pub returns : goal.returns
returns c = let e = sym c.to_depths.ensures in
    record { value = c.of_done.ensures ∙ ap (λ s. result_of s.number 0 0) e; out_after = ap (λ s. s.out) e }
