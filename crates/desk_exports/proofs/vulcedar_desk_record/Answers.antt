-- The parts of the contract's one value. Assumes nothing.
use Rattle.std.proofs.Common.{sym, ap, ◌∙◌}
use Rattle.results.specs.Result.{result_of}
use Rattle.desk_exports.proofs.vulcedar_desk_record.Goals as goal

pub returns : goal.returns
returns c = let e = sym c.record.ensures in
    record { value = c.of_done.ensures ∙ ap (λ s. result_of s.number 0 0) e; marks_after = ap (λ s. s.marks) e; classes_after = ap (λ s. s.classes) e }
