-- Assumes nothing.
use native.Mathlib.Omega.{arith}
use borrow.Author.Tests.{eq-eqb, ne_eqb}
use Rattle.plan.specs.Check.{under_block}
use Rattle.checker.proofs.under_block.Goals as goal

pub returns-then-v-eq0 : goal.returns-then-v-eq0
unfolding under_block
returns-then-v-eq0 c = rw (eq-eqb _ _ c.if-v-eq0.true)

pub kind_at-requires : goal.kind_at-requires
kind_at-requires c = omega (arith, c.requires.0.below c.args.v (omega arith) c.requires.1)

pub returns : goal.returns
unfolding under_block
returns c = rw (ne_eqb _ _ c.if-v-eq0.false, ← c.parent_at-u.ensures, ← c.kind_at.ensures)
