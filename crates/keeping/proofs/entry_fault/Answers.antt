-- The event of the entry. Assumes nothing.
use Rattle.std.proofs.Common.{◌∙◌}
use Rattle.journal.specs.Journal.{entry_fault}
use Rattle.keeping.proofs.entry_fault.Goals as goal

pub check-requires : goal.check-requires
check-requires c = c.requires

pub returns : goal.returns
unfolding entry_fault
returns c = λ home. c.check.ensures ∙ rw (c.is_sited-sited.ensures c.args.lay.plan.now home, c.from.ensures, c.from-2.ensures)
