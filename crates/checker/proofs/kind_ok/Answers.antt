-- Assumes nothing.
use borrow.Author.Tests.{le-leb, lt-leb}
use Rattle.plan.specs.Check.{kind_ok}
use Rattle.checker.proofs.kind_ok.Goals as goal

pub returns-then-k-ge1 : goal.returns-then-k-ge1
unfolding kind_ok
returns-then-k-ge1 c = rw (← c.kind_at-k.ensures, le-leb _ _ c.if-k-ge1.true)

pub returns-else-k-ge1 : goal.returns-else-k-ge1
unfolding kind_ok
returns-else-k-ge1 c = rw (← c.kind_at-k.ensures, lt-leb _ _ c.if-k-ge1.false)
