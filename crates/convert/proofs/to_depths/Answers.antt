-- The tests in turn; what passes them is written. Assumes nothing.
use Rattle.std.proofs.Common.{refl, sym, ap, ◌∙◌}
use Rattle.plan.specs.Replaced.{replaced}
use Rattle.fault.proofs.Laws.{fault-some, handed_on}
use Rattle.convert.proofs.CallLaws.{to-refused, to-ready, to-other, to-wrong, to-done}
use Rattle.convert.proofs.to_depths.Goals as goal

pub returns-in_err-check : goal.returns-in_err-check
returns-in_err-check c =
    to-refused _ _ _ c.in_err-check.ensures (fault-some _) ∙ ap (λ k. replaced k c.args.out.now) (sym (handed_on _ _ c.from_residual.ensures.1))

pub in_preorder-requires : goal.in_preorder-requires
in_preorder-requires c = to-ready _ c.args.out.now _ c.in_ok-check.ensures refl

pub returns-then-not-in_preorder : goal.returns-then-not-in_preorder
returns-then-not-in_preorder c = to-other _ _ _ c.in_ok-check.ensures refl (sym c.in_preorder.ensures ∙ c.if-not-in_preorder.true)

pub returns-then-out-plan : goal.returns-then-out-plan
returns-then-out-plan c = to-wrong _ _ _ c.in_ok-check.ensures refl (sym c.in_preorder.ensures ∙ c.if-not-in_preorder.false) c.if-out-plan.true

pub write_depths-requires : goal.write_depths-requires
write_depths-requires c = (to-ready _ c.args.out.now _ c.in_ok-check.ensures refl, c.if-out-plan.false)

pub returns : goal.returns
returns c = to-done _ _ _ c.in_ok-check.ensures refl (sym c.in_preorder.ensures ∙ c.if-not-in_preorder.false) c.if-out-plan.false _ c.write_depths.ensures
