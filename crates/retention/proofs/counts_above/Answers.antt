use Rattle.std.proofs.Common.{◌≡◌, ◌-◌, ◌+◌, arith}
use Rattle.retention.proofs.AboveLaws.{above-all, above_root, above-out, above-fell, above_on, above_open, above_as}
use Rattle.retention.proofs.counts_above.Goals as goal
use Rattle.retention.proofs.counts_above.Goals.{then-mark-ne3, else-mark-ne3}

pub loop-init : goal.loop-init
loop-init c = let e : c.args.v - 0 ≡ c.args.v = omega arith in rw e (above-all _ _ _)

pub returns-then-u-eq0 : goal.returns-then-u-eq0
returns-then-u-eq0 c = above_root c.loop.invariant c.if-u-eq0.true

pub returns-then-fell : goal.returns-then-fell
returns-then-fell c =
    above-fell c.loop.invariant (omega (arith, c.loop-test.true)) c.if-u-eq0.false c.parent-u.ensures c.from.ensures c.byte_at-mark.ensures
    c.fell.ensures c.if-fell.true

pub loop-preserved : goal.loop-preserved
loop-preserved c =
    let h = c.loop.invariant in
    let t : c.args.v - c.loop.counter ≡ 0 → ⊥ = omega (arith, c.loop-test.true) in
    let left : c.args.v - (c.loop.counter + 1) ≡ (c.args.v - c.loop.counter) - 1 = omega arith in
    let i = c.if-u-eq0.false in
    let u = c.parent-u.ensures in
    let w = c.from.ensures in
    let r = c.byte_at-mark.ensures in
    let f = c.fell.ensures in
    rw left (elim c.if-mark-ne3.branch [ then-mark-ne3 k ↦ above_as k.least-is (above_open h t i u w r f c.if-fell.false k.if-mark-ne3.true) | else-mark-ne3 k ↦ above_as k.least-is (above_on h t i u w r f c.if-fell.false k.if-mark-ne3.false) ])

pub returns : goal.returns
returns c = above-out c.loop.invariant (omega (arith, c.loop-test.false))
