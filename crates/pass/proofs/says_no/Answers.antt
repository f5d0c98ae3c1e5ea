use Rattle.plan.specs.Plan.{kind_number, is_kind}
use Rattle.pass.specs.Values.{says_no}
use Rattle.pass.proofs.TableLaws.{no-other}
use Rattle.pass.proofs.says_no.Goals as goal

pub returns-in-Conditional : goal.returns-in-Conditional
unfolding says_no is_kind kind_number
returns-in-Conditional c = rw c.in-Conditional.is

pub returns-in_default : goal.returns-in_default
returns-in_default c = no-other _ _ c.in_default.not-Conditional
