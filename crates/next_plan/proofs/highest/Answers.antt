-- By parity, the last node, and the root's parent. Assumes nothing.
use mathlib.Core.Path.{refl}
use native.Mathlib.Omega.{arith}
use borrow.Author.Tests.{eq-eqb, ne_eqb}
use Rattle.next_plan.specs.Candidates.{highest}
use Rattle.next_plan.proofs.highest.Goals as goal

pub returns-then-i-n : goal.returns-then-i-n
unfolding highest
returns-then-i-n c = rw (eq-eqb _ 0 c.if-i-eq0.true, eq-eqb _ _ c.if-i-n.true) refl

pub returns-else-i-n : goal.returns-else-i-n
unfolding highest
returns-else-i-n c = rw (eq-eqb _ 0 c.if-i-eq0.true, ne_eqb _ _ c.if-i-n.false) refl

pub returns-then-i-eq1 : goal.returns-then-i-eq1
unfolding highest
returns-then-i-eq1 c = rw (ne_eqb _ 0 c.if-i-eq0.false, eq-eqb _ 1 c.if-i-eq1.true) refl

pub overflow_sub-result : goal.overflow_sub-result
overflow_sub-result c = omega (arith, c.if-i-eq0.false, c.if-i-eq1.false)

pub returns : goal.returns
unfolding highest
returns c = rw (ne_eqb _ 0 c.if-i-eq0.false, ne_eqb _ 1 c.if-i-eq1.false) refl
