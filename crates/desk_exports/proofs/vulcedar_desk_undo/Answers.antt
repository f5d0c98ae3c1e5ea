-- The parts of what is left. Assumes nothing.
use Rattle.std.proofs.Common.{refl}
use Rattle.results.proofs.ResultLaws.{undone-result}
use Rattle.desk_exports.proofs.vulcedar_desk_undo.Goals as goal

pub returns : goal.returns
returns c = undone-result _ _ _ _ (c.undo.ensures _ refl (rw (c.entry_at-e.ensures, c.last_place.ensures))) _ c.of_done.ensures
