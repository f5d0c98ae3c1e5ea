-- The tests 1 to 7, and then the step. Assumes nothing.
use Rattle.std.proofs.Common.{refl}
use Rattle.fault.proofs.Laws.{fault-some}
use Rattle.simulation.proofs.OwnLaws.{step-unfit, step-laid}
use Rattle.simulation.proofs.simulate.Goals as goal

pub returns-in-Err : goal.returns-in-Err
returns-in-Err c = rw c.from.ensures (step-unfit _ _ _ c.node_count-n.ensures _ c.is_square.ensures _ c.in-Err.ensures (fault-some _) _ _ _)

pub advance-requires : goal.advance-requires
advance-requires c = step-laid _ _ _ c.node_count-n.ensures _ c.is_square.ensures _ c.in_default.ensures refl

pub returns : goal.returns
returns c = c.advance.ensures
