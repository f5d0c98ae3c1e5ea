--  Assumes nothing.
use borrow.Author.Tests.{eq-eqb, ne_eqb}
use Rattle.central.specs.Rule.{right_size}
use Rattle.central.proofs.right_size.Goals as goal

pub returns-then-marks-n : goal.returns-then-marks-n
unfolding right_size
returns-then-marks-n c = rw (← c.node_count-n.ensures, eq-eqb _ _ c.if-marks-n.true)

pub returns-else-marks-n : goal.returns-else-marks-n
unfolding right_size
returns-else-marks-n c = rw (← c.node_count-n.ensures, ne_eqb _ _ c.if-marks-n.false)
