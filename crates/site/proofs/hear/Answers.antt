-- The tests, then the bit. Assumes nothing.
use Rattle.std.proofs.Common.{sym, ◌∙◌, arith}
use Rattle.fault.proofs.Laws.{fault-some}
use Rattle.site.proofs.StepLaws.{tested, step-tested, hear-invalid, hear-valid}
use Rattle.site.proofs.hear.Goals as goal

pub returns-in-Err : goal.returns-in-Err
returns-in-Err c = rw c.from.ensures (hear-invalid _ _ _ _ _ (tested _ _ _ _ c.in-Err.ensures c.node_count-n.ensures) (fault-some _))

pub overflow_cast-code : goal.overflow_cast-code
overflow_cast-code c = let k = step-tested _ _ _ _ (sym (tested _ _ _ _ c.in_default.ensures c.node_count-n.ensures)) in omega arith

pub overflow_cast-node : goal.overflow_cast-node
overflow_cast-node c = let k = step-tested _ _ _ _ (sym (tested _ _ _ _ c.in_default.ensures c.node_count-n.ensures)) in omega (arith, k.plan.few)

pub returns : goal.returns
returns c = hear-valid _ _ _ _ (sym (tested _ _ _ _ c.in_default.ensures c.node_count-n.ensures)) ∙ rw c.set_heard.ensures
