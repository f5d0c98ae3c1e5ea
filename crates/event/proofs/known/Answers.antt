--  Assumes nothing.
use borrow.Author.Tests.{le-leb, lt-leb}
use Rattle.event.specs.Event.{is_code, known}
use Rattle.event.proofs.known.Goals as goal

pub returns-then-code-lt1 : goal.returns-then-code-lt1
unfolding known is_code
returns-then-code-lt1 c = simp (lt-leb _ _ c.if-code-lt1.true)

pub returns-then-code-gt8 : goal.returns-then-code-gt8
unfolding known is_code
returns-then-code-gt8 c = simp (le-leb _ _ c.if-code-lt1.false, lt-leb _ _ c.if-code-gt8.true)

pub returns : goal.returns
unfolding known is_code
returns c = rw (le-leb _ _ c.if-code-lt1.false, le-leb _ _ c.if-code-gt8.false, ← c.node_count.ensures)
