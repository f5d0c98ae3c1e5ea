-- The check, the lengths and the points, and then the layout of the desks. Assumes nothing.
use Rattle.std.proofs.Common.{refl, sym, ◌∙◌, length}
use Rattle.fault.proofs.Laws.{fault-some, handed_on}
use Rattle.desk_layout.proofs.LayoutLaws.{desks-few, prepared-laid}
use Rattle.desk_calls.proofs.CallLaws.{point-back-refused, point-back-wrong, back-tested, point-back-done}
use Rattle.desk_calls.proofs.point_back.Goals as goal

pub returns-in_err-prepare : goal.returns-in_err-prepare
returns-in_err-prepare c = rw (handed_on _ _ c.from_residual.ensures.1) (point-back-refused _ _ c.in_err-prepare.ensures.number_value (fault-some _) _ _ _ _ _ _)

pub fits-requires : goal.fits-requires
fits-requires c = desks-few c.in_ok-prepare.ensures.prepared _ c.in_ok-prepare.ensures.counted

pub returns-then-not-long-right : goal.returns-then-not-long-right
returns-then-not-long-right c = point-back-wrong _ _ _ _ _ c.in_ok-prepare.ensures.prepared _ c.in_ok-prepare.ensures.counted _ _ _ _ refl _ _ _ c.points_fit-right.ensures _ (rw c.fits.ensures at c.if-not-long-right.true)

pub layout-requires : goal.layout-requires
layout-requires c = (desks-few c.in_ok-prepare.ensures.prepared _ c.in_ok-prepare.ensures.counted).0

pub point_back_on-requires : goal.point_back_on-requires
point_back_on-requires c = let t = back-tested _ _ _ _ _ c.in_ok-prepare.ensures.prepared _ c.in_ok-prepare.ensures.counted c.args.state.now c.args.name.now c.args.count.now (length c.args.entries.now) _ (rw c.fits.ensures at c.if-not-long-right.false) in
    record { laid = rw (c.layout.ensures.0, c.layout.ensures.1, c.layout.ensures.3) (prepared-laid c.in_ok-prepare.ensures.prepared _ c.in_ok-prepare.ensures.counted _ t.0); name_len = (t.1, t.2, sym c.points_fit-right.ensures ∙ t.3) }

pub returns : goal.returns
returns c = point-back-done _ _ _ _ _ c.in_ok-prepare.ensures.prepared _ c.in_ok-prepare.ensures.counted _ _ _ _ _ _ _ (rw (c.layout.ensures.0, c.layout.ensures.1, c.layout.ensures.2, c.layout.ensures.3) at c.point_back_on.ensures)
