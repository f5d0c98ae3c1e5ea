-- What the pass over the answers told, case by case. Assumes nothing.
use Rattle.std.proofs.Common.{refl, sym, ◌∙◌, arith}
use Rattle.fault.proofs.Laws.{fault-some, handed_on}
use Rattle.impact.proofs.ChangeLaws.{change-old, change-wide, change-same, change-later, change-marks}
use Rattle.impact.proofs.change.Goals as goal

pub returns-in_err-same : goal.returns-in_err-same
returns-in_err-same c = rw (handed_on _ _ c.from_residual.ensures.1)
    (change-old _ _ _ _ _ c.requires.0 c.requires.1 _ c.in_err-same.ensures.number (fault-some _))

pub returns-then-answer-gt255 : goal.returns-then-answer-gt255
returns-then-answer-gt255 c = change-wide _ _ _ _ _ c.requires.0 c.requires.1 (sym c.in_ok-same.ensures.number) c.if-answer-gt255.true

pub returns-then-same : goal.returns-then-same
returns-then-same c =
    let told = c.in_ok-same.ensures in
    change-same _ _ _ _ _ c.requires.0 c.requires.1 (sym told.number) (omega (arith, c.if-answer-gt255.false)) _ _ (sym told.same ∙ c.if-same.true) c.pass_new.ensures

pub returns-in_err-check_new : goal.returns-in_err-check_new
returns-in_err-check_new c = rw (handed_on _ _ c.from_residual-in_err-check_new.ensures.1)
    (change-later _ _ _ _ _ c.requires.0 c.requires.1 (sym c.in_ok-same.ensures.number) (omega (arith, c.if-answer-gt255.false)) _ c.in_err-check_new.ensures (fault-some _))

pub returns : goal.returns
returns c =
    let told = c.in_ok-same.ensures in
    change-marks _ _ _ _ _ c.requires.0 c.requires.1 (sym told.number) (omega (arith, c.if-answer-gt255.false)) _ c.in_ok-check_new.ensures refl (sym told.same ∙ c.if-same.false)
