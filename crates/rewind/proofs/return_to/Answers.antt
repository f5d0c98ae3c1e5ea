-- A look at the entries down to the place, and only then the clearing. Assumes nothing.
use Rattle.std.proofs.Common.{sym}
use Rattle.fault.proofs.Laws.{fault-some, handed_on}
use Rattle.rewind.proofs.CallLaws.{way-refused, way-done}
use Rattle.rewind.proofs.return_to.Goals as goal

pub first_fault-requires : goal.first_fault-requires
first_fault-requires c = (c.requires.laid.plan.few, c.requires.place_le_count.1)

pub returns-in_err-first_fault : goal.returns-in_err-first_fault
returns-in_err-first_fault c = rw (handed_on _ _ c.from_residual.ensures.1) (way-refused _ _ _ _ c.requires.laid _ _ c.requires.place_le_count.1 _ _ _ c.requires.place_le_count.0 _ (c.in_err-first_fault.ensures _) (fault-some _))

pub rewind-requires : goal.rewind-requires
rewind-requires c = record { laid = c.requires.laid; count_in_bounds = c.requires.place_le_count.1; count_value = sym (c.in_ok-first_fault.ensures _) }

pub returns : goal.returns
returns c = way-done _ _ _ _ c.requires.laid _ _ c.requires.place_le_count.1 _ _ _ c.requires.place_le_count.0 (sym (c.in_ok-first_fault.ensures _)) _ c.rewind.ensures _ _ c.drop_past.ensures
