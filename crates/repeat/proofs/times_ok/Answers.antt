-- Both ends, in one test. Assumes nothing.
use Rattle.template.specs.Call.{times_ok}
use borrow.Author.Tests.{le-leb, lt-leb}
use Rattle.repeat.proofs.times_ok.Goals as goal

pub returns-then-count-ge1 : goal.returns-then-count-ge1
unfolding times_ok
returns-then-count-ge1 c = rw (le-leb _ _ c.if-count-ge1.true)

pub returns-else-count-ge1 : goal.returns-else-count-ge1
unfolding times_ok
returns-else-count-ge1 c = rw (lt-leb _ _ c.if-count-ge1.false)
