-- By computation. Assumes nothing.
use Rattle.std.proofs.Common.{refl}
use Rattle.find_way.specs.Marks.{unpacked}
use Rattle.find_way.proofs.unpack.Goals as goal

pub returns : goal.returns
unfolding unpacked
returns c = refl
