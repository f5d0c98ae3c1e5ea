-- The line of one byte. Assumes nothing.
use Rattle.script.proofs.LineLaws.{number_put}
use Rattle.script.proofs.put_number.Goals as goal

pub returns : goal.returns
returns c = number_put _ _ _ c.requires c.put_line.ensures
