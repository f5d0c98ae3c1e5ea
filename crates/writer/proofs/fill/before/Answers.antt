use Rattle.std.proofs.Common.{refl, sym, ◌∙◌, rules}
use Rattle.guard.proofs.FamilyLaws.{before-hit, before-miss, before-out}
use Rattle.writer.proofs.fill.before.Goals as goal

pub loop-c-init : goal.loop-c-init
loop-c-init c = (search rules, refl)

pub returns-then-c-v : goal.returns-then-c-v
returns-then-c-v c = sym (c.loop-c.invariant.1 ∙ before-hit _ _ _ _ c.loop-c-test.true c.if-c-v.true)

pub loop-c-preserved : goal.loop-c-preserved
loop-c-preserved c = (search rules, c.loop-c.invariant.1 ∙ before-miss _ _ _ _ c.loop-c-test.true c.if-c-v.false)

pub returns : goal.returns
returns c = sym (c.loop-c.invariant.1 ∙ before-out _ _ _ _ c.loop-c-test.false)
