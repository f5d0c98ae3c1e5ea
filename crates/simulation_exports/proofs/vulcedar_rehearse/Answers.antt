-- A text prints at most 15,483 bytes, so their number fits the value. Assumes nothing.
use Rattle.std.proofs.Common.{arith, refl}
use Rattle.script.proofs.ScriptLaws.{run_length}
use Rattle.results.proofs.ResultLaws.{text-result}
use Rattle.simulation_exports.proofs.vulcedar_rehearse.Goals as goal

pub overflow_cast-result : goal.overflow_cast-result
overflow_cast-result c = omega (arith, run_length _ _ c.in-Ok.ensures)

pub overflow_mul-result : goal.overflow_mul-result
overflow_mul-result c = omega (arith, run_length _ _ c.in-Ok.ensures)

pub returns-in-Ok : goal.returns-in-Ok
returns-in-Ok c = let r = text-result _ _ _ c.in-Ok.ensures 0 refl in record { value = omega (arith, r.0); out_after = r.1 }

pub returns-in-Err : goal.returns-in-Err
returns-in-Err c = let r = text-result _ _ _ c.in-Err.ensures _ c.of_fault.ensures in record { value = omega (arith, r.0); out_after = r.1 }
