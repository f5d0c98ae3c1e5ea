-- Assumes nothing.
use Rattle.std.proofs.Common.{ap, not, sym, ◌∙◌}
use Rattle.central.specs.Central.{is_yes, is_no}
use Rattle.central.proofs.NoteLaws.{not-nothing}
use Rattle.central.proofs.AllowedLaws.{answer-early, answer-once}
use Rattle.central.proofs.may_answer.Goals as goal

pub returns-in-Nothing : goal.returns-in-Nothing
unfolding is_yes is_no
returns-in-Nothing c = answer-once _ _ _ (sym c.marked.ensures ∙ c.if-not-marked.true) c.in-Nothing.ensures

pub returns-in_default : goal.returns-in_default
returns-in_default c = not-nothing _ c.in_default.not-Nothing ∙ answer-once _ _ _ (sym c.marked.ensures ∙ c.if-not-marked.true) c.answered.ensures

pub returns-else-not-marked : goal.returns-else-not-marked
returns-else-not-marked c = ap not c.if-not-marked.false ∙ answer-early _ _ _ (sym c.marked.ensures ∙ c.if-not-marked.false)
