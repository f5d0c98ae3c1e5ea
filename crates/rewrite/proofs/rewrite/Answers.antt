-- The tests; what passes them is written. Assumes nothing.
use Rattle.std.proofs.Common.{refl, sym, ap, ◌∙◌}
use Rattle.plan.specs.Replaced.{replaced}
use Rattle.fault.proofs.Laws.{fault-some, handed_on}
use Rattle.rewrite.proofs.RewriteLaws.{rewrite-refused, rewrite-long, rewrite-done}
use Rattle.rewrite.proofs.rewrite.Goals as goal

pub returns-in_err-fit : goal.returns-in_err-fit
returns-in_err-fit c =
    rewrite-refused _ _ _ c.in_err-fit.ensures (fault-some _) ∙ ap (λ k. replaced k c.args.out.now) (sym (handed_on _ _ c.from_residual.ensures.1))

pub write-requires : goal.write-requires
write-requires c = rewrite-long _ c.args.out.now _ c.in_ok-fit.ensures refl

pub returns : goal.returns
returns c = rewrite-done _ _ _ c.in_ok-fit.ensures refl _ c.write.ensures
