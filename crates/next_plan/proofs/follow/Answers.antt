-- By what an advance of the first n bytes leaves. Assumes nothing.
use mathlib.Core.Path.{sym}
use native.Mathlib.Omega.{arith}
use lib.Seq.{length-take-le}
use Rattle.next_plan.proofs.StepLaws.{step_same, step-space, step-longer}
use Rattle.next_plan.proofs.follow.Goals as goal

pub slice_bounds-advance-end-2 : goal.slice_bounds-advance-end-2
slice_bounds-advance-end-2 c = let r = c.requires in sym (length-take-le _ c.args.q.now (omega (arith, r.0, r.2)))

pub advance-requires : goal.advance-requires
advance-requires c = let r = c.requires in omega (arith, r.2, length-take-le c.args.n c.args.q.now (omega (arith, r.0, r.2)))

pub returns-then-advance : goal.returns-then-advance
returns-then-advance c =
    let r = c.requires in
    let a = c.advance.ensures in
    step_same _ _ _ _ r.0 r.1 r.2 r.3 _ a.value a.q_after c.if-advance.true

pub bounds-q-n-2 : goal.bounds-q-n-2
bounds-q-n-2 c =
    let r = c.requires in
    let a = c.advance.ensures in
    step-space _ _ _ _ r.0 r.1 r.2 r.3 _ a.value a.q_after c.if-advance.false _

pub returns : goal.returns
returns c =
    let r = c.requires in
    let a = c.advance.ensures in
    step-longer _ _ _ _ r.0 r.1 r.2 r.3 _ a.value a.q_after c.if-advance.false
