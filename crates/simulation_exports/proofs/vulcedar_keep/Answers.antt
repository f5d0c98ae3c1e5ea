-- The parts of what is kept. Assumes nothing.
use Rattle.std.proofs.Common.{refl}
use Rattle.results.proofs.ResultLaws.{kept_result}
use Rattle.simulation_exports.proofs.vulcedar_keep.Goals as goal

pub returns : goal.returns
returns c = kept_result _ _ _ _ _ (rw c.append.ensures.1 (c.keep-a.ensures _ refl)) _ c.of_verdict.ensures
