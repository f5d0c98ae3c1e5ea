-- One law for each arm. Assumes nothing.
use Rattle.std.proofs.Common.{◌∙◌}
use Rattle.central.specs.Central.{fails_by}
use Rattle.central.proofs.Tests.{and-on, and-off}
use Rattle.central.proofs.EndLaws.{two-children, fail-any, fail-all, fail-waiting, fail-branch}
use Rattle.central.proofs.fails.Goals as goal

pub branch-plan-requires : goal.branch-plan-requires
branch-plan-requires c = let r = c.requires in (r.0.few, two-children _ _ r.0 r.1 c.in-Conditional.ensures)

pub returns-in-Task : goal.returns-in-Task
unfolding fails_by
returns-in-Task c = rw (← c.in-Task.ensures)

pub returns-in-Serial : goal.returns-in-Serial
returns-in-Serial c = c.some.ensures ∙ fail-any _ _ _ _ c.node_kind.ensures c.in-Serial.is

pub returns-in-Or : goal.returns-in-Or
returns-in-Or c = c.every.ensures ∙ fail-all _ _ _ _ c.node_kind.ensures c.in-Or.is

pub returns-in-Conditional : goal.returns-in-Conditional
returns-in-Conditional c = c.branch-plan.ensures ∙ fail-branch _ _ _ _ c.in-Conditional.ensures

pub returns-then-every : goal.returns-then-every
returns-then-every c = and-on c.every-in-Waiting.ensures c.if-every.true c.some-then-every.ensures (fail-waiting _ _ _ _ c.in-Waiting.ensures)

pub returns-else-every : goal.returns-else-every
returns-else-every c = and-off _ c.every-in-Waiting.ensures c.if-every.false (fail-waiting _ _ _ _ c.in-Waiting.ensures)
