-- Each return is one of the rule's three answers. Assumes nothing.
use Rattle.std.proofs.Common.{arith, refl, sym, ◌∙◌}
use Rattle.fault.proofs.Laws.{fault-some}
use Rattle.central.proofs.RuleLaws.{refused-is, sized, told-valid, rule-refused, rule-forbidden, rule-allowed}
use Rattle.central.proofs.rule.Goals as goal

pub returns-in_err-validate : goal.returns-in_err-validate
returns-in_err-validate c =
    rw (refused-is _ _ c.from_residual.ensures.1) (rule-refused _ _ _ _ _ _ (c.in_err-validate.ensures ∙ rw c.right_size.ensures) (fault-some _))

pub overflow_cast-code : goal.overflow_cast-code
overflow_cast-code c = let v = told-valid _ _ _ c.right_size.ensures c.in_ok-validate.ensures in omega arith

pub overflow_cast-node : goal.overflow_cast-node
overflow_cast-node c = let v = told-valid _ _ _ c.right_size.ensures c.in_ok-validate.ensures in omega (arith, v.plan.few)

pub allowed-requires : goal.allowed-requires
allowed-requires c =
    let v = told-valid _ _ _ c.right_size.ensures c.in_ok-validate.ensures in
    record { accepted = (v.plan, v.node_in); le_code = (v.low, v.high); v_value = v.applied }

pub returns-then-not-allowed : goal.returns-then-not-allowed
returns-then-not-allowed c =
    rule-forbidden _ _ _ _ _ _ (c.in_ok-validate.ensures ∙ rw c.right_size.ensures) refl (sym c.allowed.ensures ∙ c.if-not-allowed.true)

pub overflow_cast-code-2 : goal.overflow_cast-code-2
overflow_cast-code-2 c = let v = told-valid _ _ _ c.right_size.ensures c.in_ok-validate.ensures in omega arith

pub overflow_cast-node-2 : goal.overflow_cast-node-2
overflow_cast-node-2 c = let v = told-valid _ _ _ c.right_size.ensures c.in_ok-validate.ensures in omega (arith, v.plan.few)

pub advance-requires : goal.advance-requires
advance-requires c =
    let v = told-valid _ _ _ c.right_size.ensures c.in_ok-validate.ensures in
    let s = sized _ _ _ v.long in
    record { le_code = (v.low, v.high); v_in_bounds = (omega arith, omega arith) }

pub returns : goal.returns
returns c =
    rule-allowed _ _ _ _ _ _ (c.in_ok-validate.ensures ∙ rw c.right_size.ensures) refl (sym c.allowed.ensures ∙ c.if-not-allowed.false)
    ∙ rw (c.advance.ensures.0, c.advance.ensures.1)
