-- Assumes nothing.
use Rattle.std.proofs.Common.{sym, ◌∙◌}
use Rattle.central.proofs.Tests.{and-on, and-off}
use Rattle.central.proofs.EndLaws.{commit-picked, commit-finished}
use Rattle.central.proofs.may_commit.Goals as goal

pub returns-then-marked : goal.returns-then-marked
returns-then-marked c = and-on c.marked.ensures c.if-marked.true c.picked.ensures (commit-picked _ _ _ _ (sym c.in-Xor.ensures))

pub returns-else-marked : goal.returns-else-marked
returns-else-marked c = and-off _ c.marked.ensures c.if-marked.false (commit-picked _ _ _ _ (sym c.in-Xor.ensures))

pub returns-then-marked-2 : goal.returns-then-marked-2
returns-then-marked-2 c = and-on c.marked-in_default.ensures c.if-marked-2.true c.finishes.ensures (commit-finished _ _ _ _ (λ e. c.in_default.not-Xor (c.kind_above.ensures ∙ e)))

pub returns-else-marked-2 : goal.returns-else-marked-2
returns-else-marked-2 c = and-off _ c.marked-in_default.ensures c.if-marked-2.false (commit-finished _ _ _ _ (λ e. c.in_default.not-Xor (c.kind_above.ensures ∙ e)))
