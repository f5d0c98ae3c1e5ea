-- The parts of what is left. Assumes nothing.
use Rattle.results.proofs.ResultLaws.{named-result}
use Rattle.simulation_exports.proofs.vulcedar_point_name.Goals as goal

pub returns : goal.returns
returns c = named-result _ _ _ _ c.name_point.ensures _ c.of_done.ensures
