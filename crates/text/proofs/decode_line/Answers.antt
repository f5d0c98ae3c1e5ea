-- Byte after byte. Assumes nothing.
use Rattle.std.proofs.Common.{arith}
use Rattle.text.proofs.DecodeLaws.{line-all, line-turn, line-done}
use Rattle.text.proofs.decode_line.Goals as goal

pub loop-i-init : goal.loop-i-init
loop-i-init c = line-all _ _ _ _ (omega arith)

pub bounds-out-at : goal.bounds-out-at
bounds-out-at c = omega (arith, c.loop-i.invariant.left.long)

pub loop-i-preserved : goal.loop-i-preserved
loop-i-preserved c = line-turn c.loop-i.invariant c.line_byte.ensures c.loop-i-test.true (omega arith)

pub returns : goal.returns
returns c = line-done c.loop-i.invariant c.loop-i-test.false (omega arith)
