-- The guard's result, or its fault's. Assumes nothing.
use Rattle.results.proofs.ResultLaws.{done-result, refused-result}
use Rattle.site_exports.proofs.vulcedar_guard.Goals as goal

pub returns-in-Ok : goal.returns-in-Ok
returns-in-Ok c = let r = done-result _ _ _ _ _ _ c.in-Ok.ensures _ c.packed.ensures in record { value = rw c.from.ensures r.0; buf_after = r.1 }

pub returns-in-Err : goal.returns-in-Err
returns-in-Err c = let r = refused-result _ _ _ _ _ _ c.in-Err.ensures _ c.of_fault.ensures in record { value = r.0; buf_after = r.1 }
