use Rattle.std.proofs.Common.{refl, sym, ap, ◌∙◌, arith, rules}
use Rattle.plan.specs.Replaced.{replaced}
use Rattle.fault.proofs.Laws.{fault-some, handed_on}
use Rattle.workload.proofs.StepLaws.{loading-first, loading-turn, loading-room, loading-done}
use Rattle.workload.proofs.CallLaws.{load-refused, load-ready, load-passed}
use Rattle.workload.proofs.workload.Goals as goal

pub returns-in_err-fit : goal.returns-in_err-fit
returns-in_err-fit c =
    load-refused _ _ _ _ c.in_err-fit.ensures (fault-some _) _ ∙ ap (λ k. replaced k c.args.out.now) (sym (handed_on _ _ c.from_residual.ensures.1))

pub overflow_cast-n : goal.overflow_cast-n
overflow_cast-n c = search (rules, (load-ready _ _ c.args.out.now _ c.in_ok-fit.ensures refl).0.few, c.node_count-n.ensures)

pub loop-i-init : goal.loop-i-init
loop-i-init c = loading-first _ _ _ _

pub put_step-s-requires : goal.put_step-s-requires
put_step-s-requires c =
    let r = load-ready _ _ c.args.out.now _ c.in_ok-fit.ensures refl in
    let e = c.node_count-n.ensures in
    (omega (arith, e, r.0.some), omega (arith, e, r.0.few), loading-room _ _ _ _ _ _ _ c.loop-i.invariant c.loop-i-test.true r.1)

pub loop-i-preserved : goal.loop-i-preserved
loop-i-preserved c =
    let e = c.put_step-s.ensures in
    let n = c.node_count-n.ensures in
    loading-turn _ _ _ _ _ _ _ c.loop-i.invariant c.loop-i-test.true _ (rw n at e.1) _ e.0

pub shape_of-out : goal.shape_of-out
shape_of-out c = c.loop-i.invariant.left.long

pub returns : goal.returns
returns c =
    let r = load-ready _ _ c.args.out.now _ c.in_ok-fit.ensures refl in
    load-passed _ _ c.args.out.now _ c.in_ok-fit.ensures refl _ _ (loading-done _ _ _ _ _ _ _ c.loop-i.invariant (omega (arith, c.loop-i-test.false)) r.1)
