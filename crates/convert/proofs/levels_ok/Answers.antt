use native.Mathlib.Omega.{arith}
use borrow.Author.Rules.{rules}
use Rattle.lists.specs.Seq.{all_below}
use Rattle.depth_form.specs.Form.{level_ok}
use Rattle.checker.proofs.TestLaws.{test-and, test-all}
use Rattle.convert.proofs.levels_ok.Goals as goal

pub loop-v-init : goal.loop-v-init
unfolding all_below
loop-v-init c = search rules

pub loop-v-preserved : goal.loop-v-preserved
loop-v-preserved c = (search rules, test-and level_ok _ _ _ _ c.loop-v.invariant.1 c.level_ok-ok.ensures)

pub returns : goal.returns
returns c = test-all level_ok _ _ _ c.loop-v.invariant.1 c.loop-v.invariant.0 (omega arith)
