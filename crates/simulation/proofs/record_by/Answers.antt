-- The table's test and the others, then the marks and the classes by them. Assumes nothing.
use Rattle.std.proofs.Common.{sym}
use Rattle.fault.proofs.Laws.{fault-some, handed_on}
use Rattle.simulation.proofs.RecordLaws.{record-told, table-refused, record-refused, record-long, record-laid, record-done}
use Rattle.simulation.proofs.record_by.Goals as goal

pub returns-in_err-check_table : goal.returns-in_err-check_table
returns-in_err-check_table c = rw (handed_on _ _ c.from_residual.ensures.1) (table-refused _ _ _ _ _ _ _ c.in_err-check_table.ensures (fault-some _))

pub returns-in_err-fit : goal.returns-in_err-fit
returns-in_err-fit c = rw (handed_on _ _ c.from_residual-in_err-fit.ensures.1)
    (record-refused _ _ _ _ _ _ (sym c.in_ok-check_table.ensures) _ (record-told _ _ _ _ _ c.node_count-n.ensures _ c.record_fits-fits.ensures _ c.in_err-fit.ensures) (fault-some _))

pub write_marks-requires : goal.write_marks-requires
write_marks-requires c =
    let z = sym (record-told _ _ _ _ _ c.node_count-n.ensures _ c.record_fits-fits.ensures _ c.in_ok-fit.ensures) in
    record { laid = record-laid _ _ _ _ z; marks_len = (record-long _ _ _ _ _ z).1 }

pub returns : goal.returns
returns c =
    let z = sym (record-told _ _ _ _ _ c.node_count-n.ensures _ c.record_fits-fits.ensures _ c.in_ok-fit.ensures) in
    record-done _ _ _ _ _ z _ (sym c.in_ok-check_table.ensures) _ _ c.write_marks.ensures c.classify.ensures
