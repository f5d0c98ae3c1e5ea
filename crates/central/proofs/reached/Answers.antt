-- One law for each arm. Assumes nothing.
use Rattle.std.proofs.Common.{◌∙◌, sym}
use Rattle.central.specs.Central.{is_yes, is_no, reached_by}
use Rattle.central.proofs.NoteLaws.{not-yes, not-no}
use Rattle.central.proofs.StartLaws.{reached-serial, reached-free, reached-contingency, reached-first, reached-second}
use Rattle.central.proofs.reached.Goals as goal

pub returns-in-Task : goal.returns-in-Task
unfolding reached_by
returns-in-Task c = rw (← c.in-Task.ensures)

pub returns-in-Serial : goal.returns-in-Serial
returns-in-Serial c = c.all_marked.ensures ∙ reached-serial _ _ _ _ _ c.requires c.in-Serial.ensures

pub returns-in-And : goal.returns-in-And
returns-in-And c = reached-free _ _ _ _ _ c.requires c.node_kind.ensures c.in-And.is

pub returns-in-Contingency : goal.returns-in-Contingency
returns-in-Contingency c = c.all_marked-in-Contingency.ensures ∙ reached-contingency _ _ _ _ _ c.requires c.in-Contingency.ensures

pub returns-in-Yes : goal.returns-in-Yes
unfolding is_yes
returns-in-Yes c = reached-first _ _ _ _ _ c.requires c.in-Conditional.ensures c.in-Yes.ensures (sym c.all_marked-in-Conditional.ensures ∙ c.if-all_marked.true)

pub returns-in_default : goal.returns-in_default
returns-in_default c = not-yes _ c.in_default.not-Yes ∙ reached-first _ _ _ _ _ c.requires c.in-Conditional.ensures c.answered.ensures (sym c.all_marked-in-Conditional.ensures ∙ c.if-all_marked.true)

pub returns-in-No : goal.returns-in-No
unfolding is_no
returns-in-No c = reached-second _ _ _ _ _ c.requires c.in-Conditional.ensures c.in-No.ensures (sym c.all_marked-in-Conditional.ensures ∙ c.if-all_marked.false)

pub returns-in_default-matches : goal.returns-in_default-matches
returns-in_default-matches c = not-no _ c.in_default-matches.not-No ∙ reached-second _ _ _ _ _ c.requires c.in-Conditional.ensures c.answered-else-all_marked.ensures (sym c.all_marked-in-Conditional.ensures ∙ c.if-all_marked.false)
