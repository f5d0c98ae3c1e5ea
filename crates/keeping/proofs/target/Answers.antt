-- An event's own row, or the row that a number names. Assumes nothing.
use mathlib.Core.Path.{ap, ◌∙◌}
use Rattle.event.specs.Site.{site_of}
use Rattle.layout.specs.Layout.{via, layout_by}
use Rattle.journal.specs.Journal.{target}
use borrow.Author.Tests.{ne_eqb}
use Rattle.keeping.proofs.target.Goals as goal

pub returns-then-site-eq255 : goal.returns-then-site-eq255
unfolding target site_of layout_by
returns-then-site-eq255 c = c.via.ensures ∙ rw c.if-site-eq255.true (ap (via _) (c.from.ensures ∙ c.host.ensures))

pub returns : goal.returns
unfolding target
returns c = c.via-2.ensures ∙ rw (ne_eqb _ 255 c.if-site-eq255.false)
