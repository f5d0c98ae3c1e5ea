-- The tests, one after another. Assumes nothing.
use Rattle.points.proofs.NamingLaws.{fit-names, fit-places, fit-slots}
use Rattle.points.proofs.points_fit.Goals as goal

pub returns-then-names-ne128 : goal.returns-then-names-ne128
returns-then-names-ne128 c = fit-names _ _ _ c.if-names-ne128.true

pub returns-then-places-ne16 : goal.returns-then-places-ne16
returns-then-places-ne16 c = fit-places _ _ _ c.if-places-ne16.true

pub returns : goal.returns
returns c = fit-slots _ _ _ c.if-names-ne128.false c.if-places-ne16.false _ c.slots_fit.ensures
