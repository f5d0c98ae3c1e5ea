-- One law for each arm. Assumes nothing.
use native.Mathlib.Omega.{arith}
use Rattle.central.proofs.AdvanceLaws.{advance-mark, advance-note, advance-down}
use Rattle.central.proofs.advance.Goals as goal
use Rattle.central.proofs.advance.Goals.{in_default-via-then-code-lt1, in_default-via-else-code-lt1+else-code-lt5+else-code-lt8}

pub returns-in-1-to-4 : goal.returns-in-1-to-4
returns-in-1-to-4 c = rw c.from-i.ensures (advance-mark _ _ _ c.args.code (omega arith) (omega arith))

pub returns-in-5-to-7 : goal.returns-in-5-to-7
returns-in-5-to-7 c = rw (c.with_bit.ensures, c.from-i.ensures) (advance-note _ _ _ c.args.code (omega arith) (omega arith))

pub returns-in_default : goal.returns-in_default
returns-in_default c = rw c.from-i.ensures (advance-down _ _ _ c.args.code (elim c.in_default.branch [ in_default-via-then-code-lt1 w ↦ omega arith | in_default-via-else-code-lt1+else-code-lt5+else-code-lt8 w ↦ omega arith ]) c.requires.le_code.1)
