-- By the kind. Assumes nothing.
use Rattle.plan.specs.Plan.{kind_number, is_kind}
use Rattle.pass.specs.Values.{done_by}
use Rattle.pass.proofs.TableLaws.{done-serial, done-contingency, done-never}
use Rattle.pass.proofs.done.Goals as goal

pub returns-in-Serial : goal.returns-in-Serial
returns-in-Serial c = rw c.in-Serial.is (done-serial _ _ _ c.eq.ensures)

pub returns-in-Contingency : goal.returns-in-Contingency
returns-in-Contingency c = rw c.in-Contingency.is (done-contingency _ _ _ c.eq-in-Contingency.ensures)

pub returns-in-Conditional : goal.returns-in-Conditional
unfolding done_by is_kind kind_number
returns-in-Conditional c = rw c.in-Conditional.is

pub returns-in_default : goal.returns-in_default
returns-in_default c = done-never _ _ _ c.in_default.not-Serial c.in_default.not-Contingency c.in_default.not-Conditional
