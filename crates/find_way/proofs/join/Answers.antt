-- By computation. Assumes nothing.
use mathlib.Core.Path.{refl}
use Rattle.find_way.specs.Marks.{as_and, as_or, keeps, turns, rests, plains, joined}
use Rattle.find_way.proofs.join.Goals as goal

pub returns : goal.returns
unfolding joined as_and as_or keeps turns rests plains
returns c = refl
