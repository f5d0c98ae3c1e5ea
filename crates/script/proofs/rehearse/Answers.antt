-- A refused text leaves the buffer, in which its number is then printed. Assumes nothing.
use Rattle.std.proofs.Common.{arith, refl}
use Rattle.fault.proofs.Laws.{fault-some}
use Rattle.script.proofs.ScriptLaws.{rehearse-short, rehearse-refused, rehearse-passed}
use Rattle.script.proofs.rehearse.Goals as goal

pub returns-then-out-lt16384 : goal.returns-then-out-lt16384
returns-then-out-lt16384 c = rehearse-short _ _ (omega arith)

pub returns-in-Ok : goal.returns-in-Ok
returns-in-Ok c = rehearse-passed _ _ c.in-Ok.ensures (omega (arith, c.if-out-lt16384.false)) refl

pub returns-in-Err : goal.returns-in-Err
returns-in-Err c = rehearse-refused _ _ c.in-Err.ensures (omega (arith, c.if-out-lt16384.false)) (fault-some _) (rw c.from.ensures at c.put_number.ensures)
