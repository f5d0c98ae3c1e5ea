-- Assumes nothing.
use Rattle.std.proofs.Common.{◌∙◌}
use Rattle.central.proofs.EndLaws.{branch-first, branch-second, branch-none}
use Rattle.central.proofs.branch.Goals as goal

pub returns-in-Yes : goal.returns-in-Yes
returns-in-Yes c = c.marked.ensures ∙ rw c.child_at.ensures (branch-first _ _ _ c.requires.1 c.in-Yes.ensures)

pub returns-in-No : goal.returns-in-No
returns-in-No c = c.marked-in-No.ensures ∙ rw c.child_at-in-No.ensures (branch-second _ _ _ c.requires.1 c.in-No.ensures)

pub returns-in-Nothing : goal.returns-in-Nothing
returns-in-Nothing c = branch-none _ _ _ c.in-Nothing.ensures
