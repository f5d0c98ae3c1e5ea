use Rattle.std.proofs.Common.{sym, ◌∙◌, arith, rules}
use Rattle.lists.specs.Seq.{all_below}
use Rattle.lists.proofs.Below.{below_more, below-stop, below_end}
use Rattle.merge.proofs.FitLaws.{rows-apply}
use Rattle.merge.proofs.rows_apply.Goals as goal

pub loop-v-init : goal.loop-v-init
unfolding all_below
loop-v-init c = search rules

pub returns-then-not-byte_applies : goal.returns-then-not-byte_applies
returns-then-not-byte_applies c = sym (rows-apply _ _ _ ∙ below-stop _ _ c.loop-v.v (omega arith) (sym c.byte_applies.ensures ∙ c.if-not-byte_applies.true))

pub loop-v-preserved : goal.loop-v-preserved
loop-v-preserved c = below_more _ _ c.loop-v.invariant (sym c.byte_applies.ensures ∙ c.if-not-byte_applies.false)

pub returns : goal.returns
returns c = sym (rows-apply _ _ _ ∙ below_end _ _ _ c.loop-v.invariant (omega arith) (omega arith))
