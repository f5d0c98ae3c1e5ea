-- The bit of a yes, else that of a no. Assumes nothing.
use Rattle.std.proofs.Common.{sym, ◌∙◌}
use Rattle.central.proofs.NoteLaws.{answer-yes, answer-no, answer-none}
use Rattle.central.proofs.answered.Goals as goal

pub returns-then-has_bit : goal.returns-then-has_bit
returns-then-has_bit c = rw (← c.byte_of-b.ensures, answer-yes _ (sym c.has_bit.ensures ∙ c.if-has_bit.true))

pub returns-then-has_bit-2 : goal.returns-then-has_bit-2
returns-then-has_bit-2 c = rw (← c.byte_of-b.ensures, answer-no _ (sym c.has_bit.ensures ∙ c.if-has_bit.false) (sym c.has_bit-else-has_bit.ensures ∙ c.if-has_bit-2.true))

pub returns-else-has_bit-2 : goal.returns-else-has_bit-2
returns-else-has_bit-2 c = rw (← c.byte_of-b.ensures, answer-none _ (sym c.has_bit.ensures ∙ c.if-has_bit.false) (sym c.has_bit-else-has_bit.ensures ∙ c.if-has_bit-2.false))
