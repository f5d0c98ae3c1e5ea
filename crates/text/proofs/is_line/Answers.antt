-- Byte by byte, up to the line feed. Assumes nothing.
use Rattle.std.proofs.Common.{ap, not, rules, arith}
use Rattle.lists.specs.Seq.{all_below}
use Rattle.text.proofs.HexLaws.{line-stop, line-more, line-end}
use Rattle.text.proofs.is_line.Goals as goal

pub loop-i-init : goal.loop-i-init
unfolding all_below
loop-i-init c = search rules

pub returns-then-not-is_digit : goal.returns-then-not-is_digit
returns-then-not-is_digit c = line-stop _ _ _ _ _ c.loop-i-test.true c.byte_at.ensures c.is_digit.ensures (ap not c.if-not-is_digit.true)

pub loop-i-preserved : goal.loop-i-preserved
loop-i-preserved c = line-more _ _ _ _ c.loop-i.invariant c.byte_at.ensures c.is_digit.ensures (ap not c.if-not-is_digit.false)

pub returns : goal.returns
returns c = line-end _ _ _ _ c.loop-i.invariant (omega arith) (omega arith) c.byte_at-2.ensures
