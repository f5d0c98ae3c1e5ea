-- Assumes nothing.
use Rattle.rewrite.proofs.RewriteLaws.{byte-new, byte-old}
use Rattle.rewrite.proofs.byte.Goals as goal
use Rattle.rewrite.proofs.byte.Goals.{else-i-eq0-via-then-i-eq0+else-b-eq3, else-i-eq0-via-else-i-eq0}

pub returns-then-b-eq3 : goal.returns-then-b-eq3
returns-then-b-eq3 c = byte-new _ _ _ c.byte_at-b.ensures c.if-i-eq0.true c.if-b-eq3.true

pub returns-else-i-eq0 : goal.returns-else-i-eq0
returns-else-i-eq0 c =
    byte-old _ _ _ c.byte_at-b.ensures
    (λ e h. elim c.else-i-eq0.branch [ else-i-eq0-via-then-i-eq0+else-b-eq3 w ↦ w.if-b-eq3.false h | else-i-eq0-via-else-i-eq0 w ↦ w.if-i-eq0.false e ])
