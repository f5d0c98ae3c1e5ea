-- As the law of the byte says. Assumes nothing.
use Rattle.guard.proofs.NamedLaws.{block-byte}
use Rattle.guard.proofs.family.is_block.Goals as goal

pub returns : goal.returns
returns c = block-byte _
