-- By parity, and the root's parent. Assumes nothing.
use mathlib.Core.Path.{refl}
use borrow.Author.Tests.{eq-eqb, ne_eqb}
use Rattle.next_plan.specs.Candidates.{lowest}
use Rattle.next_plan.proofs.lowest.Goals as goal

pub returns-then-i-eq0 : goal.returns-then-i-eq0
unfolding lowest
returns-then-i-eq0 c = rw (eq-eqb _ 0 c.if-i-eq0.true) refl

pub returns-then-i-eq1 : goal.returns-then-i-eq1
unfolding lowest
returns-then-i-eq1 c = rw (ne_eqb _ 0 c.if-i-eq0.false, eq-eqb _ 1 c.if-i-eq1.true) refl

pub returns-else-i-eq1 : goal.returns-else-i-eq1
unfolding lowest
returns-else-i-eq1 c = rw (ne_eqb _ 0 c.if-i-eq0.false, ne_eqb _ 1 c.if-i-eq1.false) refl
