-- The tests; what passes them is merged. Assumes nothing.
use Rattle.std.proofs.Common.{sym, ◌∙◌}
use Rattle.fault.proofs.Laws.{fault-some, handed_on, handed_on-value}
use Rattle.merge.proofs.JoinLaws.{fit-rows, merge-refused, merge-few, merge-row, merge-other, merge-strange, merge-done}
use Rattle.merge.proofs.merge.Goals as goal

pub returns-in_err-fit : goal.returns-in_err-fit
returns-in_err-fit c = let h = c.from_residual.ensures.1 in
    rw (handed_on _ _ h, handed_on-value _ _ h) (merge-refused _ _ _ _ (fit-rows _ _ _ c.in_err-fit.ensures c.node_count-n.ensures) (fault-some _))

pub rows_apply-requires : goal.rows_apply-requires
rows_apply-requires c = let e = sym (fit-rows _ _ _ c.in_ok-fit.ensures c.node_count-n.ensures) in
    record { plan_bound = merge-few _ _ _ e; row_len = merge-row _ _ _ e; other_len = merge-other _ _ _ e }

pub returns-then-not-rows_apply : goal.returns-then-not-rows_apply
returns-then-not-rows_apply c = let e = sym (fit-rows _ _ _ c.in_ok-fit.ensures c.node_count-n.ensures) in
    merge-strange _ _ _ e (sym c.rows_apply.ensures ∙ c.if-not-rows_apply.true)

pub join-requires : goal.join-requires
join-requires c = let e = sym (fit-rows _ _ _ c.in_ok-fit.ensures c.node_count-n.ensures) in
    record { row_len = merge-row _ _ _ e ∙ sym (merge-other _ _ _ e); row_len_bound = rw (merge-row _ _ _ e) (merge-few _ _ _ e) }

pub returns : goal.returns
returns c = let e = sym (fit-rows _ _ _ c.in_ok-fit.ensures c.node_count-n.ensures) in
    merge-done _ _ _ e (sym c.rows_apply.ensures ∙ c.if-not-rows_apply.false) _ _ c.join.ensures.row_after c.join.ensures.value
