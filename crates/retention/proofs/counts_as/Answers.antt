-- A committed node counts by those above it, any other as its mark. Assumes nothing.
use mathlib.Core.Path.{◌∙◌}
use Rattle.retention.proofs.AboveLaws.{counts-plain, counts-committed}
use Rattle.retention.proofs.counts_as.Goals as goal

pub returns-then-mark-ne3 : goal.returns-then-mark-ne3
returns-then-mark-ne3 c = counts-plain _ _ _ _ _ c.from.ensures c.byte_at-mark.ensures c.if-mark-ne3.true

pub returns : goal.returns
returns c = c.counts_above.ensures ∙ counts-committed _ _ _ _ _ c.from.ensures c.byte_at-mark.ensures c.if-mark-ne3.false
