-- The tests, and then the layout without tables. Assumes nothing.
use Rattle.std.proofs.Common.{refl}
use Rattle.fault.proofs.Laws.{fault-some, handed_on}
use Rattle.rewind.proofs.OwnLaws.{undo-unfit, undo-tested}
use Rattle.rewind.proofs.point_undo.Goals as goal

pub returns-in_err-fit : goal.returns-in_err-fit
returns-in_err-fit c = rw (handed_on _ _ c.from_residual.ensures.1) (undo-unfit _ _ c.node_count-n.ensures _ _ _ _ _ _ c.is_square-square.ensures _ c.points_fit-right.ensures _ c.in_err-fit.ensures (fault-some _))

pub point_undo_on-requires : goal.point_undo_on-requires
point_undo_on-requires c =
    let t = undo-tested _ _ c.node_count-n.ensures _ c.args.entries.now _ _ _ _ c.is_square-square.ensures _ c.points_fit-right.ensures _ c.in_ok-fit.ensures refl in
    record { laid = rw (c.own-lay.ensures.plan, c.own-lay.ensures.own) t.0; count_in_bounds = (t.1, t.2) }

pub returns : goal.returns
returns c = rw (c.own-lay.ensures.plan, c.own-lay.ensures.own, c.own-lay.ensures.row) at c.point_undo_on.ensures
