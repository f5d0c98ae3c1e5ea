-- Assumes nothing.
use mathlib.Core.Path.{◌∙◌}
use Rattle.central.proofs.byte_of.Goals as goal

pub returns : goal.returns
returns c = c.byte_at.ensures ∙ rw c.from.ensures
