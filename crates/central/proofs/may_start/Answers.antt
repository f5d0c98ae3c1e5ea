-- Assumes nothing.
use mathlib.Core.Path.{sym, ◌∙◌}
use Rattle.central.proofs.StartLaws.{start-not, start-root, start-early, start-reached}
use Rattle.central.proofs.may_start.Goals as goal

pub returns-then-not-marked : goal.returns-then-not-marked
returns-then-not-marked c = start-not _ _ _ _ (sym c.marked.ensures ∙ c.if-not-marked.true)

pub returns-then-v-eq0 : goal.returns-then-v-eq0
returns-then-v-eq0 c = start-root _ _ _ _ (sym c.marked.ensures ∙ c.if-not-marked.false) c.if-v-eq0.true

pub returns-then-marked : goal.returns-then-marked
returns-then-marked c = start-early _ _ _ _ (sym c.marked.ensures ∙ c.if-not-marked.false) c.if-v-eq0.false (rw c.parent-u.ensures at (sym c.marked-2.ensures ∙ c.if-marked.true))

pub returns : goal.returns
returns c = c.reached.ensures ∙ rw c.parent-u.ensures (start-reached _ _ _ _ (sym c.marked.ensures ∙ c.if-not-marked.false) c.if-v-eq0.false (rw c.parent-u.ensures at (sym c.marked-2.ensures ∙ c.if-marked.false)))
