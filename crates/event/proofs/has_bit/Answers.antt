--  Assumes nothing.
use borrow.Author.Tests.{le-leb, lt-leb}
use Rattle.event.specs.Event.{is_code}
use Rattle.event.specs.Bit.{weight, has_bit}
use Rattle.event.proofs.has_bit.Goals as goal

pub returns-then-code-lt1 : goal.returns-then-code-lt1
unfolding has_bit is_code
returns-then-code-lt1 c = rw (lt-leb _ _ c.if-code-lt1.true)

pub returns-then-code-gt8 : goal.returns-then-code-gt8
unfolding has_bit is_code
returns-then-code-gt8 c = rw (le-leb _ _ c.if-code-lt1.false, lt-leb _ _ c.if-code-gt8.true)

pub returns : goal.returns
unfolding has_bit is_code weight
returns c = rw (le-leb _ _ c.if-code-lt1.false, le-leb _ _ c.if-code-gt8.false)
