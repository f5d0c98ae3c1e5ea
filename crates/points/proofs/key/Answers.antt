-- Assumes nothing.
use Rattle.points.specs.Keys.{key_at}
use Rattle.points.proofs.key.Goals as goal

pub returns : goal.returns
unfolding key_at
returns c = rw (c.half.ensures.0, c.half-2.ensures.0)
