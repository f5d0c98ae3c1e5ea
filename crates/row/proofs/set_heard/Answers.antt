-- The node's byte gets the bit; past the end nothing is set. Assumes nothing.
use Rattle.std.proofs.Common.{sym, arith}
use Rattle.row.specs.Row.{hear}
use Rattle.row.proofs.RowLaws.{hear-past}
use Rattle.row.proofs.set_heard.Goals as goal

pub returns-then-i-row : goal.returns-then-i-row
unfolding hear
returns-then-i-row c = rw (← c.from-i.ensures, c.with_bit.ensures)

pub returns-else-i-row : goal.returns-else-i-row
returns-else-i-row c = sym (hear-past _ _ _ (omega (arith, c.from-i.ensures, c.if-i-row.false)))
