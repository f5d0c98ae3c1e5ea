-- Where the bit is not set its weight is added, and fits. Assumes nothing.
use mathlib.Core.Path.{◌≡◌, sym, ◌∙◌}
use mathlib.Core.Bool.{false}
use borrow.Author.Tests.{le-leb, lt-leb}
use Rattle.event.specs.Event.{is_code}
use Rattle.event.specs.Bit.{has_bit, with_bit}
use Rattle.event.proofs.BitLaws.{with-fits, shift-weight}
use Rattle.event.proofs.with_bit.Goals as goal
use Rattle.event.proofs.with_bit.Lts
use Rattle.event.proofs.with_bit.Tie
use Rattle.event.proofs.with_bit.Reads

unset : (c : Lts.Else1 Tie.the-claims Reads.Pre Reads.Post) → has_bit c.args.b c.args.code ≡ false
unset c = sym c.has_bit.ensures ∙ c.if-has_bit.false

pub returns-then-has_bit : goal.returns-then-has_bit
unfolding with_bit
returns-then-has_bit c = rw (← c.has_bit.ensures, c.if-has_bit.true)

pub returns-then-code-lt1 : goal.returns-then-code-lt1
unfolding with_bit is_code
returns-then-code-lt1 c = rw (unset c.before, lt-leb _ _ c.if-code-lt1.true)

pub returns-then-code-gt8 : goal.returns-then-code-gt8
unfolding with_bit is_code
returns-then-code-gt8 c = rw (unset c.before.before, le-leb _ _ c.if-code-lt1.false, lt-leb _ _ c.if-code-gt8.true)

pub overflow_add-result : goal.overflow_add-result
overflow_add-result c = let s = c.before.before.before.before in
    record { fits = rw (shift-weight s.args.b s.args.code s.ranges.b.fits c.if-code-lt1.false c.if-code-gt8.false) (with-fits _ _ s.ranges.b.fits c.if-code-lt1.false c.if-code-gt8.false (unset c.before.before)) }

pub returns : goal.returns
unfolding with_bit is_code
returns c = let s = c.before.before.before.before in
    rw (unset c.before.before, le-leb _ _ c.if-code-lt1.false, le-leb _ _ c.if-code-gt8.false) (rw (shift-weight s.args.b s.args.code s.ranges.b.fits c.if-code-lt1.false c.if-code-gt8.false))
