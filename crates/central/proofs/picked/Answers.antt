-- Assumes nothing.
use mathlib.Core.Path.{◌∙◌}
use Rattle.central.specs.Scan.{picked_at}
use Rattle.central.proofs.picked.Goals as goal

pub returns : goal.returns
unfolding picked_at
returns c = c.has_bit.ensures ∙ rw c.byte_of.ensures
