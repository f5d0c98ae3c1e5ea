-- By the kinds' bytes. Assumes nothing.
use Rattle.std.proofs.Common.{sym}
use Rattle.guard.proofs.NamedLaws.{one-bytes}
use Rattle.row.proofs.evaluate.names_one.Goals as goal

pub returns : goal.returns
returns c = sym (one-bytes _ _ _ c.kind.ensures c.above.ensures (sym c.names_one.ensures))
