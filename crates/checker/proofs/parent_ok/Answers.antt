-- Assumes nothing.
use borrow.Author.Tests.{eq-eqb, ne_eqb}
use Rattle.plan.specs.Check.{parent_ok}
use Rattle.checker.proofs.parent_ok.Goals as goal

pub returns-then-v-eq0 : goal.returns-then-v-eq0
unfolding parent_ok
returns-then-v-eq0 c = rw (← c.parent_at-u.ensures, eq-eqb _ _ c.if-v-eq0.true)

pub returns : goal.returns
unfolding parent_ok
returns c = rw (← c.parent_at-u.ensures, ne_eqb _ _ c.if-v-eq0.false)
