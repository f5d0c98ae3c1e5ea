-- A remainder is below its divisor. Assumes nothing.
use Rattle.std.proofs.Common.{◌/◌, refl, mod-lt, rules}
use Rattle.workload.specs.Load.{draw}
use Rattle.workload.proofs.drawn.Goals as goal

pub overflow_cast-result : goal.overflow_cast-result
overflow_cast-result c = search (rules, mod-lt (c.args.s / 65536) c.requires.0, c.requires.1)

pub returns : goal.returns
unfolding draw
returns c = refl
