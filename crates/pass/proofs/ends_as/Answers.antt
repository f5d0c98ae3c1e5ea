-- An xor's own fault, or the state. Assumes nothing.
use Rattle.std.proofs.Common.{inl, inr, sym, ◌∙◌}
use Rattle.pass.proofs.TableLaws.{xor-told, ends-picked, ends-empty, ends-wrong, ends-down}
use Rattle.pass.proofs.ends_as.Goals as goal
use Rattle.pass.proofs.ends_as.Goals.{else-eq-via-then-eq+else-answer-ne0, else-eq-via-else-eq}

pub returns-in-Committed-clause-value : goal.returns-in-Committed-clause-value
returns-in-Committed-clause-value c = rw c.in-Committed.is (ends-picked _ _)

pub returns-then-answer-ne0-clause-value : goal.returns-then-answer-ne0-clause-value
returns-then-answer-ne0-clause-value c = rw c.in-Failed.is (ends-wrong _ _ (sym (xor-told _ _ c.eq.ensures) ∙ c.if-eq.true) c.if-answer-ne0.true)

pub returns-else-eq-clause-value : goal.returns-else-eq-clause-value
returns-else-eq-clause-value c = rw c.in-Failed.is (ends-empty _ _
    (elim c.else-eq.branch [ else-eq-via-then-eq+else-answer-ne0 w ↦ inr w.if-answer-ne0.false | else-eq-via-else-eq w ↦ inl (sym (xor-told _ _ c.eq.ensures) ∙ w.if-eq.false) ]))

pub returns-in-TurnedDown-clause-value : goal.returns-in-TurnedDown-clause-value
returns-in-TurnedDown-clause-value c = rw c.in-TurnedDown.is (ends-down _ _ (c.requires c.in-TurnedDown.is))
