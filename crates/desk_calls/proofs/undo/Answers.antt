-- The check, the lengths, and then the layout of the desks. Assumes nothing.
use Rattle.std.proofs.Common.{sym}
use Rattle.fault.proofs.Laws.{fault-some, handed_on}
use Rattle.keeping.proofs.UndoLaws.{undoes-none, undoes-bad, undoes-done}
use Rattle.desk_layout.proofs.LayoutLaws.{desks-few, prepared-laid}
use Rattle.desk_calls.proofs.CallLaws.{undo-refused, undo-wrong, undo-tested, desk-undoes}
use Rattle.desk_calls.proofs.undo.Goals as goal

pub returns-in_err-prepare : goal.returns-in_err-prepare
returns-in_err-prepare c = rw (handed_on _ _ c.from_residual.ensures.1) (undo-refused _ _ c.in_err-prepare.ensures.number_value (fault-some _) _ _ _ _)

pub fits-requires : goal.fits-requires
fits-requires c = desks-few c.in_ok-prepare.ensures.prepared _ c.in_ok-prepare.ensures.counted

pub returns-then-not-fits-count : goal.returns-then-not-fits-count
returns-then-not-fits-count c = undo-wrong _ _ _ _ _ c.in_ok-prepare.ensures.prepared _ c.in_ok-prepare.ensures.counted _ _ _ (rw c.fits.ensures at c.if-not-fits-count.true) _

pub returns-then-count-eq0 : goal.returns-then-count-eq0
returns-then-count-eq0 c = let t = undo-tested _ _ _ _ _ c.in_ok-prepare.ensures.prepared _ c.in_ok-prepare.ensures.counted _ _ _ (rw c.fits.ensures at c.if-not-fits-count.false) in
    desk-undoes _ _ _ _ _ c.in_ok-prepare.ensures.prepared _ c.in_ok-prepare.ensures.counted _ _ _ _ _ _ _ (undoes-none _ _ _ _ (prepared-laid c.in_ok-prepare.ensures.prepared _ c.in_ok-prepare.ensures.counted _ t.0) _ _ _ t.1 c.if-count-eq0.true)

pub layout-lay-requires : goal.layout-lay-requires
layout-lay-requires c = (desks-few c.in_ok-prepare.ensures.prepared _ c.in_ok-prepare.ensures.counted).0

pub entry_fault-requires : goal.entry_fault-requires
entry_fault-requires c = let t = undo-tested _ _ _ _ _ c.in_ok-prepare.ensures.prepared _ c.in_ok-prepare.ensures.counted _ _ _ (rw c.fits.ensures at c.if-not-fits-count.false) in rw c.layout-lay.ensures.0 (prepared-laid c.in_ok-prepare.ensures.prepared _ c.in_ok-prepare.ensures.counted _ t.0).plan.few

pub returns-in_err-entry_fault : goal.returns-in_err-entry_fault
returns-in_err-entry_fault c = let t = undo-tested _ _ _ _ _ c.in_ok-prepare.ensures.prepared _ c.in_ok-prepare.ensures.counted _ _ _ (rw c.fits.ensures at c.if-not-fits-count.false) in
    rw (handed_on _ _ c.from_residual-in_err-entry_fault.ensures.1)
    (desk-undoes _ _ _ _ _ c.in_ok-prepare.ensures.prepared _ c.in_ok-prepare.ensures.counted _ _ _ _ _ _ _ (undoes-bad _ _ _ _ (prepared-laid c.in_ok-prepare.ensures.prepared _ c.in_ok-prepare.ensures.counted _ t.0) _ _ _ t.1 c.if-count-eq0.false _ (rw (c.layout-lay.ensures.0, c.layout-lay.ensures.2, c.layout-lay.ensures.3) at (c.in_err-entry_fault.ensures c.prepare.new.self.home)) (fault-some _)))

pub take_back-requires : goal.take_back-requires
take_back-requires c = let t = undo-tested _ _ _ _ _ c.in_ok-prepare.ensures.prepared _ c.in_ok-prepare.ensures.counted _ _ _ (rw c.fits.ensures at c.if-not-fits-count.false) in
    record { laid = rw (c.layout-lay.ensures.0, c.layout-lay.ensures.1, c.layout-lay.ensures.3) (prepared-laid c.in_ok-prepare.ensures.prepared _ c.in_ok-prepare.ensures.counted _ t.0); e_value = sym (c.in_ok-entry_fault.ensures _) }

pub returns : goal.returns
returns c = let t = undo-tested _ _ _ _ _ c.in_ok-prepare.ensures.prepared _ c.in_ok-prepare.ensures.counted _ _ _ (rw c.fits.ensures at c.if-not-fits-count.false) in
    desk-undoes _ _ _ _ _ c.in_ok-prepare.ensures.prepared _ c.in_ok-prepare.ensures.counted _ _ _ _ _ _ _ (undoes-done _ _ _ _ (prepared-laid c.in_ok-prepare.ensures.prepared _ c.in_ok-prepare.ensures.counted _ t.0) _ _ _ t.1 c.if-count-eq0.false (rw (c.layout-lay.ensures.0, c.layout-lay.ensures.2, c.layout-lay.ensures.3) at (sym (c.in_ok-entry_fault.ensures c.prepare.new.self.home))) _ (rw (c.layout-lay.ensures.0, c.layout-lay.ensures.1, c.layout-lay.ensures.2, c.layout-lay.ensures.3) at c.take_back.ensures))
