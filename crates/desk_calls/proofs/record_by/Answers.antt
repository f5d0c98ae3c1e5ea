-- The table, the check, the lengths, and then the marks and the classes. Assumes nothing.
use Rattle.std.proofs.Common.{sym, ◌∙◌}
use Rattle.fault.proofs.Laws.{fault-some, handed_on}
use Rattle.desk_layout.proofs.LayoutLaws.{desks-few, prepared-laid, plan-size}
use Rattle.desk_calls.proofs.CallLaws.{table-first, desk-record-refused, record-wrong, marks-tested, desk-record-done}
use Rattle.desk_calls.proofs.record_by.Goals as goal

pub returns-in_err-check_table : goal.returns-in_err-check_table
returns-in_err-check_table c = rw (handed_on _ _ c.from_residual.ensures.1) (table-first _ _ _ _ _ _ c.in_err-check_table.ensures (fault-some _))

pub returns-in_err-prepare : goal.returns-in_err-prepare
returns-in_err-prepare c = rw (handed_on _ _ c.from_residual-in_err-prepare.ensures.1) (desk-record-refused _ _ c.in_err-prepare.ensures.number_value (fault-some _) _ _ _ _ (sym c.in_ok-check_table.ensures))

pub fits-requires : goal.fits-requires
fits-requires c = desks-few c.in_ok-prepare.ensures.prepared _ c.in_ok-prepare.ensures.counted

pub returns-then-not-fits-marks : goal.returns-then-not-fits-marks
returns-then-not-fits-marks c = record-wrong _ _ _ _ _ c.in_ok-prepare.ensures.prepared _ c.in_ok-prepare.ensures.counted _ (sym c.in_ok-check_table.ensures) _ _ _ (rw c.fits.ensures at c.if-not-fits-marks.true)

pub layout-lay-requires : goal.layout-lay-requires
layout-lay-requires c = (desks-few c.in_ok-prepare.ensures.prepared _ c.in_ok-prepare.ensures.counted).0

pub write_marks-requires : goal.write_marks-requires
write_marks-requires c = let t = marks-tested _ _ _ _ _ c.in_ok-prepare.ensures.prepared _ c.in_ok-prepare.ensures.counted c.args.state.now c.args.marks.now c.args.classes.now (rw c.fits.ensures at c.if-not-fits-marks.false) in
    rw (c.layout-lay.ensures.0, c.layout-lay.ensures.1, c.layout-lay.ensures.3) (record { laid = prepared-laid c.in_ok-prepare.ensures.prepared _ c.in_ok-prepare.ensures.counted _ t.0; marks_len = t.1 ∙ sym (plan-size c.in_ok-prepare.ensures.prepared _ c.in_ok-prepare.ensures.counted) })

pub returns : goal.returns
returns c = desk-record-done _ _ _ _ _ c.in_ok-prepare.ensures.prepared _ c.in_ok-prepare.ensures.counted _ (sym c.in_ok-check_table.ensures) _ _ _ (rw c.fits.ensures at c.if-not-fits-marks.false) _ _ (rw (c.layout-lay.ensures.0, c.layout-lay.ensures.1, c.layout-lay.ensures.3) at c.write_marks.ensures) (rw c.layout-lay.ensures.0 at c.classify.ensures)
