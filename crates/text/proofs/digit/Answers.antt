-- The definition, on either side of 10. Assumes nothing.
use Rattle.std.proofs.Common.{arith}
use borrow.Author.Tests.{lt-ltb, le-ltb}
use Rattle.text.specs.Hex.{digit_of}
use Rattle.text.proofs.digit.Goals as goal

pub returns-then-n-lt10 : goal.returns-then-n-lt10
unfolding digit_of
returns-then-n-lt10 c = rw (lt-ltb _ _ c.if-n-lt10.true) (omega arith)

pub returns-else-n-lt10 : goal.returns-else-n-lt10
unfolding digit_of
returns-else-n-lt10 c = rw (le-ltb _ _ c.if-n-lt10.false) (omega arith)
