-- The definition, test by test. Assumes nothing.
use borrow.Author.Tests.{eq-eqb, ne_eqb}
use Rattle.retention.specs.Record.{fell}
use Rattle.retention.proofs.fell.Goals as goal

pub returns-then-mark-eq4 : goal.returns-then-mark-eq4
unfolding fell
returns-then-mark-eq4 c = rw (eq-eqb c.args.mark 4 c.if-mark-eq4.true)

pub returns-else-mark-eq4 : goal.returns-else-mark-eq4
unfolding fell
returns-else-mark-eq4 c = rw (ne_eqb c.args.mark 4 c.if-mark-eq4.false)
