use Rattle.std.proofs.Common.{◌∙◌, ap}
use Rattle.plan.specs.Plan.{kind, kind_of}
use Rattle.plan.proofs.node_kind.Goals as goal

pub returns : goal.returns
unfolding kind
returns c = c.from.ensures ∙ ap kind_of c.kind.ensures
