-- The children of the node, or of its parent for a start and a turned down. Assumes nothing.
use Rattle.guard.proofs.NamedLaws.{parent-itself, parent_above}
use Rattle.guard.proofs.family.family_parent.Goals as goal

pub returns-then-code : goal.returns-then-code
returns-then-code c = parent-itself _ _ _ c.if-code.true

pub returns-else-code : goal.returns-else-code
returns-else-code c = parent_above _ _ _ c.parent.ensures c.if-code.false
