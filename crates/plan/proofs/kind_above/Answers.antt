use Rattle.std.proofs.Common.{◌∙◌, ap, sym}
use Rattle.plan.specs.Plan.{kind_of}
use Rattle.plan.proofs.KindLaws.{above-byte}
use Rattle.plan.proofs.kind_above.Goals as goal

pub returns : goal.returns
returns c = c.from.ensures ∙ ap kind_of c.above.ensures ∙ sym (above-byte _ _)
