-- By the number alone, for any plan. Assumes nothing.
use borrow.Author.Tests.{ne_eqb}
use Rattle.layout.specs.Layout.{layout_by}
use Rattle.journal.specs.Journal.{sited}
use Rattle.keeping.proofs.is_sited.Goals as goal

pub returns-then-site-eq255 : goal.returns-then-site-eq255
unfolding sited
returns-then-site-eq255 c = λ p home. rw c.if-site-eq255.true

pub returns : goal.returns
unfolding sited layout_by
returns c = λ p home. rw (ne_eqb _ 255 c.if-site-eq255.false, c.via.ensures, c.from.ensures)
