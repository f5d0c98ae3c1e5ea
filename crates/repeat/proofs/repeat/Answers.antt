-- The tests of the plan, of the lent bytes and of the node; then those of the template. Assumes nothing.
use Rattle.std.proofs.Common.{refl, arith}
use Rattle.fault.proofs.Laws.{fault-some, handed_on, handed_on-value}
use Rattle.template.proofs.CallLaws.{repeat-ready, by-lent, by-node}
use Rattle.repeat.proofs.repeat.Goals as goal

pub returns-in_err-fit : goal.returns-in_err-fit
returns-in_err-fit c =
    let e = c.from_residual.ensures.1 in
    rw (handed_on _ _ e, handed_on-value _ _ e) (by-lent _ _ _ _ _ c.in_err-fit.ensures (fault-some _))

pub returns-then-node_count-m : goal.returns-then-node_count-m
returns-then-node_count-m c = let r = repeat-ready _ c.args.out.now _ c.in_ok-fit.ensures refl in by-node _ _ _ _ r.0 r.1 (omega (arith, c.if-node_count-m.true, c.node_count.ensures))

pub repeat_below-requires : goal.repeat_below-requires
repeat_below-requires c = let r = repeat-ready _ c.args.out.now _ c.in_ok-fit.ensures refl in (r.0, omega (arith, c.if-node_count-m.false, c.node_count.ensures), r.1)
