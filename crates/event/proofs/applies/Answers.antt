-- The node is in the plan, so its kinds decide. Assumes nothing.
use mathlib.Core.Path.{◌∙◌}
use borrow.Author.Tests.{lt-ltb}
use Rattle.plan.specs.Plan.{in_xor, kind}
use Rattle.plan.proofs.KindLaws.{above-byte}
use Rattle.event.specs.Event.{applies}
use Rattle.event.proofs.applies.Goals as goal

pub returns : goal.returns
unfolding applies in_xor kind
returns c = c.applies_by.ensures ∙ rw (c.kind.ensures, c.above.ensures, lt-ltb _ _ c.requires.v_bound, above-byte)
