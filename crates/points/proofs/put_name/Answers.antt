-- The name's eight bytes in place of the slot's. Assumes nothing.
use Rattle.std.proofs.Common.{arith}
use Rattle.points.proofs.PutLaws.{name_put}
use Rattle.points.proofs.put_name.Goals as goal

pub returns : goal.returns
returns c = name_put _ _ _ _ _ c.copy_from_slice.ensures.after (omega (arith, c.requires.2)) (omega (arith, c.requires.0, c.requires.1, c.requires.2))
