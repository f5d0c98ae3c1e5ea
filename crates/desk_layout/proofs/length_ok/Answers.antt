-- Assumes nothing.
use borrow.Author.Tests.{eq-eqb, ne_eqb, lt-ltb, le-ltb}
use Rattle.desks.specs.Desk.{threes}
use Rattle.desk_layout.proofs.length_ok.Goals as goal

pub returns-then-n-ne0 : goal.returns-then-n-ne0
unfolding threes
returns-then-n-ne0 c = rw (ne_eqb _ _ c.if-n-ne0.true)

pub returns-then-n-gt0 : goal.returns-then-n-gt0
unfolding threes
returns-then-n-gt0 c = rw (eq-eqb _ _ c.if-n-ne0.false, lt-ltb _ _ c.if-n-gt0.true)

pub returns-else-n-gt0 : goal.returns-else-n-gt0
unfolding threes
returns-else-n-gt0 c = rw (eq-eqb _ _ c.if-n-ne0.false, le-ltb _ _ c.if-n-gt0.false)
