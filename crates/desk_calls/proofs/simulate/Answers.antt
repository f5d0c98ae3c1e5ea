-- The check, the length, and then the layout of the desks. Assumes nothing.
use Rattle.std.proofs.Common.{sym, ◌∙◌, ap}
use borrow.Author.Tests.{eqb-true, eqb-false}
use Rattle.fault.proofs.Laws.{fault-some}
use Rattle.job.specs.Simulation.{simulated}
use Rattle.desk_layout.proofs.LayoutLaws.{desks-few, plan-is, prepared-laid}
use Rattle.desk_calls.proofs.CallLaws.{simulate-refused, simulate-wrong, simulate-done}
use Rattle.desk_calls.proofs.simulate.Goals as goal

pub returns-in-Err : goal.returns-in-Err
returns-in-Err c = rw c.from.ensures (simulate-refused _ _ c.in-Err.ensures.number_value (fault-some _) _ _ _ _)

pub fits-requires : goal.fits-requires
fits-requires c = desks-few c.in_default.ensures.prepared _ c.in_default.ensures.counted

pub returns-then-not-fits : goal.returns-then-not-fits
returns-then-not-fits c = rw c.from-then-not-fits.ensures (simulate-wrong _ _ _ _ _ c.in_default.ensures.prepared _ c.in_default.ensures.counted _ (eqb-false _ _ (sym c.fits.ensures ∙ c.if-not-fits.true)) _ _ _)

pub layout-lay-requires : goal.layout-lay-requires
layout-lay-requires c = (desks-few c.in_default.ensures.prepared _ c.in_default.ensures.counted).0

pub own_desk-own-requires : goal.own_desk-own-requires
own_desk-own-requires c = (c.in_default.ensures.prepared.accepted, c.layout-lay.ensures.0 ∙ plan-is c.in_default.ensures.prepared _ c.in_default.ensures.counted)

pub simulate-requires : goal.simulate-requires
simulate-requires c = rw (c.layout-lay.ensures.0, c.layout-lay.ensures.1, c.layout-lay.ensures.3) (prepared-laid c.in_default.ensures.prepared _ c.in_default.ensures.counted _ (eqb-true _ _ (sym c.fits.ensures ∙ c.if-not-fits.false)))

pub returns : goal.returns
returns c = simulate-done _ _ _ _ _ c.in_default.ensures.prepared _ c.in_default.ensures.counted _ (eqb-true _ _ (sym c.fits.ensures ∙ c.if-not-fits.false)) _ _ _ _ c.own_desk-own.ensures _ _ (rw (c.layout-lay.ensures.0, c.layout-lay.ensures.1, c.layout-lay.ensures.2, c.layout-lay.ensures.3) at c.simulate.ensures) ∙ ap (simulated _) (sym c.at_desk.ensures)
