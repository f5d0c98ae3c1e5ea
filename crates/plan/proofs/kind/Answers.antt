use Rattle.std.proofs.Common.{rules}
use Rattle.plan.specs.Plan.{size, kind_byte, parent}
use Rattle.plan.proofs.kind.Goals as goal

pub returns : goal.returns
unfolding size kind_byte parent
returns c = search rules
