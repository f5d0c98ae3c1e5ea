-- A product and a sum, each of which keeps its low 32 bits. Assumes nothing.
use Rattle.std.proofs.Common.{rules}
use Rattle.workload.specs.Load.{moved}
use Rattle.workload.proofs.moved.Goals as goal

pub returns : goal.returns
unfolding moved
returns c = search rules
