-- The plan and the lengths, and then the event itself. Assumes nothing.
use Rattle.std.proofs.Common.{sym, ◌∙◌}
use Rattle.plan.proofs.Main.{fit-exact}
use Rattle.fault.proofs.Laws.{fault-some, handed_on}
use Rattle.event.proofs.ValidLaws.{invalid-fit, invalid-fault}
use Rattle.event.proofs.validate.Goals as goal

pub returns-in_err-fit : goal.returns-in_err-fit
returns-in_err-fit c =
    let e = c.in_err-fit.ensures in handed_on _ _ c.from_residual.ensures.1 ∙ e ∙ sym (invalid-fit _ _ _ _ _ (λ z. fault-some _ (e ∙ z)))

pub check-requires : goal.check-requires
check-requires c = ((fit-exact _ _).none.0 (sym c.in_ok-fit.ensures)).0.few

pub returns : goal.returns
returns c = c.check.ensures ∙ sym (invalid-fault _ _ _ _ _ (sym c.in_ok-fit.ensures))
