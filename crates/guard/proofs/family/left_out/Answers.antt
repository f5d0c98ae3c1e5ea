-- A turned down leaves its node out, and no other event does. Assumes nothing.
use Rattle.guard.proofs.NamedLaws.{none_out, self-out}
use Rattle.guard.proofs.family.left_out.Goals as goal

pub returns-then-code : goal.returns-then-code
returns-then-code c = none_out _ _ c.if-code.true

pub returns-else-code : goal.returns-else-code
returns-else-code c = self-out _ _ c.if-code.false
