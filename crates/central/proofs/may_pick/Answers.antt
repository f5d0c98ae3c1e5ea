-- Assumes nothing.
use mathlib.Core.Path.{refl, ap}
use mathlib.Core.Bool.{not}
use Rattle.central.proofs.Tests.{and-on, and-off}
use Rattle.central.proofs.AllowedLaws.{pick_first}
use Rattle.central.proofs.may_pick.Goals as goal

pub returns-then-marked : goal.returns-then-marked
returns-then-marked c = and-on c.marked.ensures c.if-marked.true (ap not c.any_picked.ensures) (pick_first _ _ _ _ _ c.parent.ensures)

pub returns-else-marked : goal.returns-else-marked
returns-else-marked c = and-off _ c.marked.ensures c.if-marked.false (pick_first _ _ _ _ _ refl)
