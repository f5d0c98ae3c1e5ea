-- The table's test, the classes' room, the pass, and its classes. Assumes nothing.
use Rattle.std.proofs.Common.{refl, sym}
use Rattle.fault.proofs.Laws.{fault-some, handed_on}
use Rattle.pass_record.proofs.PassRecordLaws.{table-refused, classes-refused, pass-refused, pass-done}
use Rattle.pass_record.proofs.pass_record.Goals as goal

pub returns-in_err-check_table : goal.returns-in_err-check_table
returns-in_err-check_table c = rw (handed_on _ _ c.from_residual.ensures.1) (table-refused _ _ _ _ _ _ c.in_err-check_table.ensures (fault-some _))

pub returns-then-classes-node_count : goal.returns-then-classes-node_count
returns-then-classes-node_count c =
    classes-refused _ _ _ _ _ (sym c.in_ok-check_table.ensures) _ c.node_count.ensures c.if-classes-node_count.true _ c.fit.ensures

pub returns-in_err-pass : goal.returns-in_err-pass
returns-in_err-pass c = rw (handed_on _ _ c.from_residual-in_err-pass.ensures.1)
    (pass-refused _ _ _ _ _ (sym c.in_ok-check_table.ensures) _ c.node_count.ensures c.if-classes-node_count.false _ _ c.in_err-pass.ensures (fault-some _))

pub returns : goal.returns
returns c =
    pass-done _ _ _ _ _ (sym c.in_ok-check_table.ensures) _ c.node_count.ensures c.if-classes-node_count.false _ _ c.in_ok-pass.ensures refl _ c.classify.ensures
