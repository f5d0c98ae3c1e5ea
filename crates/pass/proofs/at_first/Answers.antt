use Rattle.pass.proofs.TableLaws.{first-works, first-breaks}
use Rattle.pass.proofs.at_first.Goals as goal

pub returns-in-Serial : goal.returns-in-Serial
returns-in-Serial c = first-works _ c.in-Serial.is

pub returns-in_default : goal.returns-in_default
returns-in_default c = first-breaks _ c.in_default.not-Serial c.in_default.not-And c.in_default.not-Waiting
