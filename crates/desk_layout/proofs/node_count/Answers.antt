-- Assumes nothing.
use mathlib.Core.Path.{refl}
use Rattle.desks.specs.Desk.{nodes}
use Rattle.desk_layout.proofs.node_count.Goals as goal

pub returns : goal.returns
unfolding nodes
returns c = refl
