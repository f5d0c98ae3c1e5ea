use Rattle.std.proofs.Common.{refl, sym, ◌∙◌}
use Rattle.fault.proofs.Laws.{fault-some, handed_on}
use Rattle.rewind.proofs.BackLaws.{fault-met, fault-on, fault-end}
use Rattle.rewind.proofs.first_fault.Goals as goal

pub returns-in_err-entry_fault : goal.returns-in_err-entry_fault
returns-in_err-entry_fault c = λ home. handed_on _ _ c.from_residual.ensures.1 ∙ fault-met _ _ _ _ _ _ c.loop-i-test.true _ refl _ (c.in_err-entry_fault.ensures home) (fault-some _) ∙ c.loop-i.invariant home

pub loop-i-preserved : goal.loop-i-preserved
loop-i-preserved c = λ home. fault-on _ _ _ _ _ _ c.loop-i-test.true _ refl (sym (c.in_ok-entry_fault.ensures home)) ∙ c.loop-i.invariant home

pub returns : goal.returns
returns c = λ home. sym (fault-end _ _ _ _ _ _ c.loop-i-test.false) ∙ c.loop-i.invariant home
