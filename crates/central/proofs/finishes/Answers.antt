-- One law for each arm. Assumes nothing.
use Rattle.std.proofs.Common.{◌∙◌}
use Rattle.central.specs.Central.{finishes_by}
use Rattle.central.proofs.Tests.{and-on, and-off}
use Rattle.central.proofs.EndLaws.{two-children, finish-all, finish-or, finish-xor, finish-any, finish-branch}
use Rattle.central.proofs.finishes.Goals as goal

pub branch-plan-requires : goal.branch-plan-requires
branch-plan-requires c = let r = c.requires in (r.0.few, two-children _ _ r.0 r.1 c.in-Conditional.ensures)

pub returns-in-Task : goal.returns-in-Task
unfolding finishes_by
returns-in-Task c = rw (← c.in-Task.ensures)

pub returns-in-Serial : goal.returns-in-Serial
returns-in-Serial c = c.every.ensures ∙ finish-all _ _ _ _ c.node_kind.ensures c.in-Serial.is

pub returns-then-every : goal.returns-then-every
returns-then-every c = and-on c.every-in-Or.ensures c.if-every.true c.some.ensures (finish-or _ _ _ _ c.in-Or.ensures)

pub returns-else-every : goal.returns-else-every
returns-else-every c = and-off _ c.every-in-Or.ensures c.if-every.false (finish-or _ _ _ _ c.in-Or.ensures)

pub returns-then-every-2 : goal.returns-then-every-2
returns-then-every-2 c = and-on c.every-in-Xor.ensures c.if-every-2.true c.some-then-every-2.ensures (finish-xor _ _ _ _ c.in-Xor.ensures)

pub returns-else-every-2 : goal.returns-else-every-2
returns-else-every-2 c = and-off _ c.every-in-Xor.ensures c.if-every-2.false (finish-xor _ _ _ _ c.in-Xor.ensures)

pub returns-in-Contingency : goal.returns-in-Contingency
returns-in-Contingency c = c.some-in-Contingency.ensures ∙ finish-any _ _ _ _ c.in-Contingency.ensures

pub returns-in-Conditional : goal.returns-in-Conditional
returns-in-Conditional c = c.branch-plan.ensures ∙ finish-branch _ _ _ _ c.in-Conditional.ensures
