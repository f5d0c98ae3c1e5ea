-- Each verdict is its result. Assumes nothing.
use Rattle.std.proofs.Common.{refl}
use Rattle.site.specs.Verdict.{report_of}
use Rattle.results.specs.Result.{of_report}
use Rattle.results.proofs.ResultLaws.{step-result}
use Rattle.site_exports.proofs.vulcedar_step.Goals as goal

pub returns-in-Passed : goal.returns-in-Passed
unfolding of_report report_of
returns-in-Passed c = let r = step-result _ _ _ c.in-Passed.ensures _ c.with_value.ensures in record { value = r.0; row_after = r.1 }

pub returns-in-Heard : goal.returns-in-Heard
unfolding of_report report_of
returns-in-Heard c = let r = step-result _ _ _ c.in-Heard.ensures _ refl in record { value = r.0; row_after = r.1 }

pub returns-in-Refused : goal.returns-in-Refused
returns-in-Refused c = let r = step-result _ _ _ c.in-Refused.ensures _ c.of_refusal.ensures in record { value = r.0; row_after = r.1 }
