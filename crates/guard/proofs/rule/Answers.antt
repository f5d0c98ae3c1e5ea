-- The tests, or the rule. Assumes nothing.
use Rattle.std.proofs.Common.{sym, arith, refl}
use Rattle.event.proofs.ValidLaws.{valid}
use Rattle.fault.proofs.Laws.{fault-some, handed_on, handed_on-value}
use Rattle.guard.proofs.RuleLaws.{rule-small, answer-refused, answer-found}
use Rattle.guard.proofs.rule.Goals as goal

pub returns-in_err-validate : goal.returns-in_err-validate
returns-in_err-validate c =
    let h = c.from_residual.ensures.1 in
    rw (handed_on _ _ h, handed_on-value _ _ h) (answer-refused _ _ _ c.in_err-validate.ensures (fault-some _))

pub overflow_cast-code : goal.overflow_cast-code
overflow_cast-code c = let v = valid _ _ _ _ _ (sym c.in_ok-validate.ensures) in omega (arith, v.high)

pub overflow_cast-node : goal.overflow_cast-node
overflow_cast-node c = let v = valid _ _ _ _ _ (sym c.in_ok-validate.ensures) in omega (arith, v.node_in, v.plan.few)

pub overflow_cast-result : goal.overflow_cast-result
overflow_cast-result c =
    let v = valid _ _ _ _ _ (sym c.in_ok-validate.ensures) in omega (arith, c.rule_number.ensures, rule-small v.plan v.node_in c.args.code)

pub returns : goal.returns
returns c = answer-found _ _ _ c.in_ok-validate.ensures refl c.rule_number.ensures
