-- The check, the lengths and the points, and then the layout of the desks. Assumes nothing.
use Rattle.std.proofs.Common.{refl, sym, ◌∙◌, length}
use Rattle.fault.proofs.Laws.{fault-some, handed_on}
use Rattle.desk_layout.proofs.LayoutLaws.{desks-few, prepared-laid}
use Rattle.desk_calls.proofs.CallLaws.{point-undo-refused, point-undo-wrong, points-tested, point-undo-done}
use Rattle.desk_calls.proofs.point_undo.Goals as goal

pub returns-in_err-prepare : goal.returns-in_err-prepare
returns-in_err-prepare c = rw (handed_on _ _ c.from_residual.ensures.1) (point-undo-refused _ _ c.in_err-prepare.ensures.number_value (fault-some _) _ _ _ _ _)

pub fits-requires : goal.fits-requires
fits-requires c = desks-few c.in_ok-prepare.ensures.prepared _ c.in_ok-prepare.ensures.counted

pub returns-then-not-long-right : goal.returns-then-not-long-right
returns-then-not-long-right c = point-undo-wrong _ _ _ _ _ c.in_ok-prepare.ensures.prepared _ c.in_ok-prepare.ensures.counted _ _ _ _ refl _ _ _ c.points_fit-right.ensures (rw c.fits.ensures at c.if-not-long-right.true)

pub layout-requires : goal.layout-requires
layout-requires c = (desks-few c.in_ok-prepare.ensures.prepared _ c.in_ok-prepare.ensures.counted).0

pub point_undo_on-requires : goal.point_undo_on-requires
point_undo_on-requires c = let t = points-tested _ _ _ _ _ c.in_ok-prepare.ensures.prepared _ c.in_ok-prepare.ensures.counted c.args.state.now c.args.count.now (length c.args.entries.now) _ (rw c.fits.ensures at c.if-not-long-right.false) in
    record { laid = rw (c.layout.ensures.0, c.layout.ensures.1, c.layout.ensures.3) (prepared-laid c.in_ok-prepare.ensures.prepared _ c.in_ok-prepare.ensures.counted _ t.0); count_in_bounds = (t.1, sym c.points_fit-right.ensures ∙ t.2) }

pub returns : goal.returns
returns c = point-undo-done _ _ _ _ _ c.in_ok-prepare.ensures.prepared _ c.in_ok-prepare.ensures.counted _ _ _ _ _ _ (rw (c.layout.ensures.0, c.layout.ensures.1, c.layout.ensures.2, c.layout.ensures.3) at c.point_undo_on.ensures)
