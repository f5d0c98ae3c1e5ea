use Rattle.std.proofs.Common.{◌∙◌}
use Rattle.plan.specs.Plan.{above_byte}
use Rattle.std.proofs.Common.{ne_eqb}
use Rattle.plan.proofs.above.Goals as goal

pub returns-then-v-eq0 : goal.returns-then-v-eq0
unfolding above_byte
returns-then-v-eq0 c = rw c.if-v-eq0.true

pub returns-else-v-eq0 : goal.returns-else-v-eq0
unfolding above_byte
returns-else-v-eq0 c = c.kind.ensures ∙ rw (ne_eqb _ _ c.if-v-eq0.false, c.parent.ensures)
