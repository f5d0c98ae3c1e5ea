-- Assumes nothing.
use mathlib.Core.Path.{ap, ◌∙◌}
use mathlib.Core.Bool.{not}
use Rattle.central.proofs.EndLaws.{some-marked}
use Rattle.central.proofs.some.Goals as goal

pub returns : goal.returns
returns c = ap not c.every.ensures ∙ some-marked _ _ _ c.ranges.set.fits
