use Rattle.std.proofs.Common.{◌-◌, sym, ◌∙◌, ap, arith}
use Rattle.trees.specs.Numbering.{is_above}
use Rattle.convert.proofs.ClimbLaws.{follow-root, follow-turn, follow-stop, follow-done}
use Rattle.convert.proofs.in_preorder.Goals as goal

pub loop-v-init : goal.loop-v-init
loop-v-init c = follow-root c.requires

pub is_above-requires : goal.is_above-requires
is_above-requires c = (c.requires, omega (arith, c.loop-v-test.true, c.node_count-v-end.ensures))

pub returns-then-not-is_above : goal.returns-then-not-is_above
returns-then-not-is_above c =
    let told = c.is_above.ensures ∙ ap (λ u. is_above c.args.plan.now u (c.loop-v.v - 1)) c.parent_at.ensures in
    follow-stop c.requires c.loop-v.invariant (omega (arith, c.loop-v-test.true, c.node_count-v-end.ensures)) (sym told ∙ c.if-not-is_above.true)

pub loop-v-preserved : goal.loop-v-preserved
loop-v-preserved c =
    let told = c.is_above.ensures ∙ ap (λ u. is_above c.args.plan.now u (c.loop-v.v - 1)) c.parent_at.ensures in
    follow-turn c.requires c.loop-v.invariant (omega (arith, c.loop-v-test.true, c.node_count-v-end.ensures)) (sym told ∙ c.if-not-is_above.false)

pub returns : goal.returns
returns c = follow-done c.requires c.loop-v.invariant (omega (arith, c.loop-v-test.false, c.node_count-v-end.ensures))
