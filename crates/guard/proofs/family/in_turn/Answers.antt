-- As the law of the byte says. Assumes nothing.
use Rattle.guard.proofs.NamedLaws.{turn_byte}
use Rattle.guard.proofs.family.in_turn.Goals as goal

pub returns : goal.returns
returns c = turn_byte _
