-- No table, or a table of six lines: its bytes are tested. Assumes nothing.
use Rattle.std.proofs.Common.{◌∙◌}
use Rattle.script.proofs.ReadLaws.{read_none, read-other, read-six}
use Rattle.script.proofs.check_table.Goals as goal
use Rattle.script.proofs.check_table.Goals.{else-head-ne0-via-then-head-ne0+else-head-ne33, else-head-ne0-via-else-head-ne0}

pub returns-then-head-ne33 : goal.returns-then-head-ne33
returns-then-head-ne33 c = read-other _ _ c.if-head-ne0.true c.if-head-ne33.true

pub returns : goal.returns
returns c =
    c.check_table.ensures ∙ elim c.else-head-ne0.branch [ else-head-ne0-via-then-head-ne0+else-head-ne33 w ↦ read-six _ _ w.if-head-ne33.false | else-head-ne0-via-else-head-ne0 w ↦ read_none _ _ w.if-head-ne0.false ]
