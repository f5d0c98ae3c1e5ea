-- Assumes nothing.
use mathlib.Core.Path.{sym, ◌∙◌}
use Rattle.layout.proofs.TableLaws.{via-in, via-past}
use Rattle.layout.proofs.via.Goals as goal

pub returns-then-i-table : goal.returns-then-i-table
returns-then-i-table c = c.from.ensures ∙ sym (via-in _ _ c.if-i-table.true)

pub returns-else-i-table : goal.returns-else-i-table
returns-else-i-table c = sym (via-past _ _ c.if-i-table.false)
