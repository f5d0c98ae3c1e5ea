-- The parts of what is left. Assumes nothing.
use Rattle.results.proofs.ResultLaws.{returned-result}
use Rattle.desk_exports.proofs.vulcedar_desk_point_undo.Goals as goal

pub returns : goal.returns
returns c = returned-result _ _ _ _ _ _ c.point_undo.ensures _ c.of_done.ensures
