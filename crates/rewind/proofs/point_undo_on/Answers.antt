-- No step is left, or it is the way back to the place before the last one. Assumes nothing.
use native.Mathlib.Omega.{arith}
use Rattle.points.proofs.NamingLaws.{fit-long}
use Rattle.rewind.proofs.CallLaws.{undo-empty, undo-way}
use Rattle.rewind.proofs.point_undo_on.Goals as goal

pub returns-then-k-eq0 : goal.returns-then-k-eq0
returns-then-k-eq0 c = undo-empty _ _ _ _ c.requires.laid _ _ c.requires.count_in_bounds.0 _ _ c.requires.count_in_bounds.1 c.if-k-eq0.true

pub return_to-requires : goal.return_to-requires
return_to-requires c = let l = fit-long _ _ _ c.requires.count_in_bounds.1 in
    record { laid = c.requires.laid; place_le_count = (omega (arith, c.if-k-eq0.false), c.requires.count_in_bounds.0, l.0, l.1) }

pub returns : goal.returns
returns c = undo-way _ _ _ _ c.requires.laid _ _ c.requires.count_in_bounds.0 _ _ c.requires.count_in_bounds.1 c.if-k-eq0.false _ c.return_to.ensures
