-- Assumes nothing.
use native.Mathlib.Omega.{arith}
use Rattle.points.specs.Keys.{half_at}
use Rattle.points.proofs.half.Goals as goal

pub returns : goal.returns
unfolding half_at
returns c = (rw (c.from-3.ensures, c.from-4.ensures, c.from.ensures, c.from-2.ensures), omega arith)
