-- The tests, and then the layout without tables. Assumes nothing.
use Rattle.std.proofs.Common.{refl, sym}
use Rattle.fault.proofs.Laws.{fault-some, handed_on}
use Rattle.keeping.proofs.UndoLaws.{undoes-none, undoes-bad, undoes-done}
use Rattle.keeping.proofs.OwnLaws.{undo-unfit, undo-laid, as-laid}
use Rattle.keeping.proofs.undo.Goals as goal

pub returns-in_err-fit : goal.returns-in_err-fit
returns-in_err-fit c = rw (handed_on _ _ c.from_residual.ensures.1) (undo-unfit _ _ c.node_count-n.ensures _ _ _ _ c.is_square.ensures _ c.in_err-fit.ensures (fault-some _) _)

pub returns-then-count-eq0 : goal.returns-then-count-eq0
returns-then-count-eq0 c = let l = undo-laid _ _ c.node_count-n.ensures _ _ _ _ c.is_square.ensures _ c.in_ok-fit.ensures refl in undoes-none _ _ _ _ l.0 _ _ _ l.1 c.if-count-eq0.true

pub entry_fault-requires : goal.entry_fault-requires
entry_fault-requires c = let l = undo-laid _ _ c.node_count-n.ensures _ _ _ _ c.is_square.ensures _ c.in_ok-fit.ensures refl in (as-laid _ _ _ _ c.own-lay.ensures.plan c.own-lay.ensures.own _ l.0).plan.few

pub returns-in_err-entry_fault : goal.returns-in_err-entry_fault
returns-in_err-entry_fault c =
    let l = undo-laid _ _ c.node_count-n.ensures _ _ _ _ c.is_square.ensures _ c.in_ok-fit.ensures refl in
    rw (handed_on _ _ c.from_residual-in_err-entry_fault.ensures.1)
    (undoes-bad _ _ _ _ l.0 _ _ _ l.1 c.if-count-eq0.false _ (rw (c.own-lay.ensures.plan, c.own-lay.ensures.own, c.own-lay.ensures.row) at (c.in_err-entry_fault.ensures c.own-lay.result.home.now)) (fault-some _))

pub take_back-requires : goal.take_back-requires
take_back-requires c =
    let l = undo-laid _ _ c.node_count-n.ensures _ _ _ _ c.is_square.ensures _ c.in_ok-fit.ensures refl in
    record { laid = as-laid _ _ _ _ c.own-lay.ensures.plan c.own-lay.ensures.own _ l.0; e_value = sym (c.in_ok-entry_fault.ensures c.own-lay.result.home.now) }

pub returns : goal.returns
returns c =
    let l = undo-laid _ _ c.node_count-n.ensures _ _ _ _ c.is_square.ensures _ c.in_ok-fit.ensures refl in
    undoes-done _ _ _ _ l.0 _ _ _ l.1 c.if-count-eq0.false (rw (c.own-lay.ensures.plan, c.own-lay.ensures.own, c.own-lay.ensures.row) at (sym (c.in_ok-entry_fault.ensures c.own-lay.result.home.now))) _ (rw (c.own-lay.ensures.plan, c.own-lay.ensures.own, c.own-lay.ensures.row) at c.take_back.ensures)
