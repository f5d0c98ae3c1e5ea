-- By computation. Assumes nothing.
use mathlib.Core.Path.{refl}
use Rattle.find_way.specs.Marks.{as_and, as_or, works_to, breaks_to, marks_by}
use Rattle.find_way.proofs.finish.Goals as goal

pub returns : goal.returns
unfolding marks_by as_and as_or works_to breaks_to
returns c = refl
