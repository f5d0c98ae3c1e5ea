-- The bits are tried in the order of the rule. Assumes nothing.
use mathlib.Core.Path.{◌≡◌, sym, ◌∙◌}
use mathlib.Core.Bool.{false}
use Rattle.event.specs.Bit.{has_bit}
use Rattle.layout.specs.Layout.{mark_byte}
use Rattle.layout.proofs.mark_byte.Goals as goal
use Rattle.layout.proofs.mark_byte.Lts
use Rattle.layout.proofs.mark_byte.Tie
use Rattle.layout.proofs.mark_byte.Reads

no-1 : (c : Lts.Else1 Tie.the-claims Reads.Pre Reads.Post) → has_bit c.args.b 3 ≡ false
no-1 c = sym c.has_bit.ensures ∙ c.if-has_bit.false

no-2 : (c : Lts.Else2 Tie.the-claims Reads.Pre Reads.Post) → has_bit c.args.b 4 ≡ false
no-2 c = sym c.has_bit-2.ensures ∙ c.if-has_bit-2.false

no-3 : (c : Lts.Else3 Tie.the-claims Reads.Pre Reads.Post) → has_bit c.args.b 8 ≡ false
no-3 c = sym c.has_bit-3.ensures ∙ c.if-has_bit-3.false

no-4 : (c : Lts.Else4 Tie.the-claims Reads.Pre Reads.Post) → has_bit c.args.b 2 ≡ false
no-4 c = sym c.has_bit-4.ensures ∙ c.if-has_bit-4.false

no-5 : (c : Lts.Else5 Tie.the-claims Reads.Pre Reads.Post) → has_bit c.args.b 1 ≡ false
no-5 c = sym c.has_bit-5.ensures ∙ c.if-has_bit-5.false

pub returns-then-has_bit : goal.returns-then-has_bit
unfolding mark_byte
returns-then-has_bit c = rw (← c.has_bit.ensures, c.if-has_bit.true)

pub returns-then-has_bit-2 : goal.returns-then-has_bit-2
unfolding mark_byte
returns-then-has_bit-2 c = rw (no-1 c.before.before, ← c.has_bit-2.ensures, c.if-has_bit-2.true)

pub returns-then-has_bit-3 : goal.returns-then-has_bit-3
unfolding mark_byte
returns-then-has_bit-3 c = rw (no-1 c.before.before.before.before, no-2 c.before.before, ← c.has_bit-3.ensures, c.if-has_bit-3.true)

pub returns-then-has_bit-4 : goal.returns-then-has_bit-4
unfolding mark_byte
returns-then-has_bit-4 c = rw (no-1 c.before.before.before.before.before.before, no-2 c.before.before.before.before, no-3 c.before.before, ← c.has_bit-4.ensures, c.if-has_bit-4.true)

pub returns-then-has_bit-5 : goal.returns-then-has_bit-5
unfolding mark_byte
returns-then-has_bit-5 c = rw (no-1 c.before.before.before.before.before.before.before.before, no-2 c.before.before.before.before.before.before, no-3 c.before.before.before.before, no-4 c.before.before, ← c.has_bit-5.ensures, c.if-has_bit-5.true)

pub returns : goal.returns
unfolding mark_byte
returns c = rw (no-1 c.before.before.before.before.before.before.before.before, no-2 c.before.before.before.before.before.before, no-3 c.before.before.before.before, no-4 c.before.before, no-5 c)
