-- Assumes nothing.
use mathlib.Core.Path.{◌∙◌}
use Rattle.layout.proofs.StepLaws.{simulate-event, simulate-message}
use Rattle.layout.proofs.simulate.Goals as goal

pub returns-then-site-eq255 : goal.returns-then-site-eq255
returns-then-site-eq255 c = simulate-event _ _ _ _ _ _ _ c.if-site-eq255.true ∙ c.happen.ensures

pub returns : goal.returns
returns c = simulate-message _ _ _ _ _ _ _ c.if-site-eq255.false ∙ rw (← c.via.ensures) c.tell.ensures
