use Rattle.std.proofs.Common.{sym, ◌∙◌, arith}
use Rattle.plan.specs.Plan.{size, parent}
use Rattle.guard.proofs.FamilyLaws.{family-yes, family-left, family-no}
use Rattle.row.proofs.EvaluateLaws.{any-begin, any_found, any-on, any-skip, any-end}
use Rattle.row.proofs.evaluate.any_holds.Goals as goal
use Rattle.row.proofs.evaluate.any_holds.Goals.{else-plan-c-via-then-plan-c+then-c-from+else-heard, else-plan-c-via-then-plan-c+else-c-from, else-plan-c-via-else-plan-c}

pub loop-c-init : goal.loop-c-init
loop-c-init c = any-begin _ _ _ _ c.node_count-n.ensures _

pub overflow_mul-c : goal.overflow_mul-c
unfolding size
overflow_mul-c c = omega (arith, c.node_count-n.ensures)

pub overflow_add-c : goal.overflow_add-c
unfolding size
overflow_add-c c = omega (arith, c.node_count-n.ensures)

pub bounds-plan-c : goal.bounds-plan-c
unfolding size
bounds-plan-c c = omega (arith, c.node_count-n.ensures)

pub returns-then-heard : goal.returns-then-heard
unfolding parent
returns-then-heard c =
    sym (any_found _ _ _ _ c.loop-c.invariant c.loop-c-test.true (family-yes _ _ _ _ c.if-plan-c.true (λ e. c.if-c-from.true (e ∙ sym c.from.ensures)))
    (sym c.heard.ensures ∙ c.if-heard.true))

pub loop-c-preserved : goal.loop-c-preserved
unfolding parent
loop-c-preserved c =
    let l = c.loop-c.invariant in
    let i = c.loop-c-test.true in
    elim c.else-plan-c.branch [ else-plan-c-via-then-plan-c+then-c-from+else-heard w ↦ any-on _ _ _ _ l i (family-yes _ _ _ _ w.if-plan-c.true (λ e. w.if-c-from.true (e ∙ sym w.from.ensures))) (sym w.heard.ensures ∙ w.if-heard.false) | else-plan-c-via-then-plan-c+else-c-from w ↦ any-skip _ _ _ _ l i (family-left _ _ _ _ (w.if-c-from.false ∙ w.from.ensures)) | else-plan-c-via-else-plan-c w ↦ any-skip _ _ _ _ l i (family-no _ _ _ _ w.if-plan-c.false) ]

pub returns : goal.returns
returns c = sym (any-end _ _ _ _ c.loop-c.invariant c.loop-c-test.false)
