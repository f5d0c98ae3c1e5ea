use native.Mathlib.Omega.{arith}
use borrow.Author.Rules.{rules}
use Rattle.lists.specs.Seq.{all_below}
use Rattle.plan.specs.Check.{parent_ok}
use Rattle.checker.proofs.TestLaws.{test-and, test-all}
use Rattle.checker.proofs.parents_ok.Goals as goal

pub loop-v-init : goal.loop-v-init
unfolding all_below
loop-v-init c = search rules

pub loop-v-preserved : goal.loop-v-preserved
loop-v-preserved c = (search rules, test-and parent_ok _ _ _ _ c.loop-v.invariant.1 c.parent_ok-ok.ensures)

pub returns : goal.returns
returns c = test-all parent_ok _ _ _ c.loop-v.invariant.1 c.loop-v.invariant.0 (omega arith)
