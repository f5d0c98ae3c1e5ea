-- The mark, then the class. Assumes nothing.
use Rattle.std.proofs.Common.{◌∙◌, ne_eqb}
use Rattle.retention.proofs.TableLaws.{frame-other, frame-class}
use Rattle.retention.proofs.frame_ok.Goals as goal

pub returns-then-from-i : goal.returns-then-from-i
returns-then-from-i c = frame-class _ _ _ _ _ c.byte_at.ensures c.from.ensures c.if-from-i.true c.byte_at-then-from-i.ensures

pub returns-else-from-i : goal.returns-else-from-i
returns-else-from-i c = ne_eqb _ _ c.if-from-i.false ∙ frame-other _ _ _ _ c.byte_at.ensures c.from.ensures c.if-from-i.false
