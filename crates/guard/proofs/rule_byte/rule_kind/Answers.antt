-- One law for each way out. Assumes nothing.
use mathlib.Core.Path.{◌∙◌}
use native.Mathlib.Omega.{arith}
use Rattle.guard.proofs.RuleLaws.{rule-kind-root, rule-kind-own, rule-kind-above}
use Rattle.guard.proofs.rule_byte.rule_kind.Goals as goal

pub returns-then-code-v : goal.returns-then-code-v
returns-then-code-v c = rule-kind-root _ _ _ (omega arith) (omega arith) c.if-code-v.true

pub returns-then-code : goal.returns-then-code
returns-then-code c = c.above.ensures ∙ rule-kind-above _ _ _ (omega arith) (omega arith) c.if-code-v.false c.if-code.true

pub returns : goal.returns
returns c = c.kind.ensures ∙ rule-kind-own _ _ _ (omega arith) (omega arith) c.if-code.false
