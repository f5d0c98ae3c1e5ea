-- Repeated zeros. Assumes nothing.
use Rattle.script.proofs.SimulationLaws.{zeros-are}
use Rattle.script.proofs.zeros.Goals as goal

pub returns : goal.returns
returns g c = zeros-are _
