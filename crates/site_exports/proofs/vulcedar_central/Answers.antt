-- One law, and the result of each ruling and of a refusal. Assumes nothing.
use Rattle.std.proofs.Common.{refl, ap, ◌∙◌}
use Rattle.central.specs.Rule.{ruling_number, ruling_value}
use Rattle.results.specs.Result.{of_ruling}
use Rattle.results.proofs.ResultLaws.{ruling-result}
use Rattle.site_exports.proofs.vulcedar_central.Goals as goal

pub returns-in-Ok-Allowed : goal.returns-in-Ok-Allowed
unfolding of_ruling ruling_number ruling_value
returns-in-Ok-Allowed c = let r = ruling-result _ _ _ _ (rw c.in-Ok-Allowed.field-0-is at c.in-Ok-Allowed.ensures) _ refl in record { value = r.0; marks_after = r.1.0; notes_after = r.1.1 }

pub returns-in-Ok-Forbidden : goal.returns-in-Ok-Forbidden
unfolding of_ruling ruling_number ruling_value
returns-in-Ok-Forbidden c = let r = ruling-result _ _ _ _ (rw c.in-Ok-Forbidden.field-0-is at c.in-Ok-Forbidden.ensures) _ refl in record { value = r.0; marks_after = r.1.0; notes_after = r.1.1 }

pub returns-in-Err : goal.returns-in-Err
unfolding of_ruling ruling_number ruling_value
returns-in-Err c =
    let r = ruling-result _ _ _ _ c.in-Err.ensures _ c.of_fault.ensures in record { value = r.0; marks_after = r.1.0; notes_after = r.1.1 }
