-- Assumes nothing.
use mathlib.Core.Path.{refl}
use Rattle.central.proofs.Tests.{and-on, and-off}
use Rattle.central.proofs.AllowedLaws.{down-later}
use Rattle.central.proofs.may_turn_down.Goals as goal

pub returns-then-marked : goal.returns-then-marked
returns-then-marked c = and-on c.marked.ensures c.if-marked.true c.any_picked.ensures (down-later _ _ _ _ _ c.parent.ensures)

pub returns-else-marked : goal.returns-else-marked
returns-else-marked c = and-off _ c.marked.ensures c.if-marked.false (down-later _ _ _ _ _ refl)
