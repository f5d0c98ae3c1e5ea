-- The table of rule Q1, by computation. Assumes nothing.
use mathlib.Core.Path.{refl}
use Rattle.way.specs.Way.{can_want}
use Rattle.find_way.proofs.can_want.Goals as goal

pub returns : goal.returns
unfolding can_want
returns c = refl
