-- A byte above 5 counts as 5. Assumes nothing.
use Rattle.std.proofs.Common.{◌∙◌, ap, min}
use Rattle.central.proofs.MarkLaws.{byte-read}
use Rattle.central.proofs.marked.Goals as goal

pub returns : goal.returns
returns c = byte-read _ _ _ _ (c.min-mark.ensures ∙ ap (λ b. min b 5) c.byte_of.ensures)
