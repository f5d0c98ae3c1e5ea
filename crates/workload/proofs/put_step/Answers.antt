-- Four moves, and three bytes (`step-put` of proofs/StepLaws.antt). Assumes nothing.
use Rattle.std.proofs.Common.{◌+◌, set, arith, length-set, rules}
use Rattle.workload.proofs.StepLaws.{four-moves, step-put}
use Rattle.workload.proofs.put_step.Goals as goal

pub overflow_add-out : goal.overflow_add-out
overflow_add-out c = search (rules, c.drawn.ensures)

pub bounds-out-at-2 : goal.bounds-out-at-2
bounds-out-at-2 c = omega (arith, c.requires.2, length-set c.args.out.now c.args.at (c.drawn.result + 1))

pub bounds-out-at-3 : goal.bounds-out-at-3
bounds-out-at-3 c =
    let out = c.args.out.now in
    let at = c.args.at in
    omega (arith, c.requires.2, length-set out at (c.drawn.result + 1), length-set (set out at (c.drawn.result + 1)) (at + 1) c.drawn-2.result)

pub returns : goal.returns
returns c =
    let m₁ = c.moved-first.ensures in
    let m₂ = c.moved-second.ensures in
    let m₃ = c.moved-third.ensures in
    let m₄ = c.moved-fourth.ensures in
    (four-moves _ _ _ _ _ m₁ m₂ m₃ m₄, step-put _ _ _ _ _ m₁ m₂ m₃ m₄ _ _ _ _ c.drawn.ensures c.drawn-2.ensures c.site.ensures _ _)
