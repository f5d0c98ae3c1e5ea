-- The definition's bytes. Assumes nothing.
use mathlib.Core.Path.{refl}
use Rattle.retention.specs.Record.{common_table}
use Rattle.retention.proofs.common_table.Goals as goal

pub returns : goal.returns
unfolding common_table
returns c = refl
