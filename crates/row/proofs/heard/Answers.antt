-- The bit in the node's byte. Assumes nothing.
use Rattle.std.proofs.Common.{◌∙◌}
use Rattle.row.specs.Row.{heard_in}
use Rattle.row.proofs.heard.Goals as goal

pub returns : goal.returns
unfolding heard_in
returns c = c.has_bit.ensures ∙ rw c.byte_at.ensures
