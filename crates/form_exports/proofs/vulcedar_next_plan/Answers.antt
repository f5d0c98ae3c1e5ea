-- The answer's number and nodes, packed, and the lent bytes. Assumes nothing.
use Rattle.std.proofs.Common.{sym, ap, ◌∙◌}
use Rattle.results.specs.Result.{of_made}
use Rattle.form_exports.proofs.vulcedar_next_plan.Goals as goal

pub returns : goal.returns
unfolding of_made
returns c = let e = sym c.next_plan.ensures in
    record { value = c.of_value.ensures ∙ ap of_made e; out_after = ap (λ s. s.out) e }
