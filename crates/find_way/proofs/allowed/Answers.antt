-- Fixed or free, as one test. Assumes nothing.
use Rattle.find_way.proofs.HopeLaws.{fits-is}
use Rattle.find_way.proofs.allowed.Goals as goal

pub returns : goal.returns
returns c = fits-is _ _ _ _
