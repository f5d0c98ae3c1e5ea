-- By the first draw. Assumes nothing.
use Rattle.std.proofs.Common.{sym, refl, ◌∙◌, eq-eqb, ne_eqb}
use Rattle.workload.proofs.site.Goals as goal

pub returns-then-drawn-eq0 : goal.returns-then-drawn-eq0
returns-then-drawn-eq0 c = rw (eq-eqb _ 0 (sym c.drawn.ensures ∙ c.if-drawn-eq0.true)) refl

pub returns : goal.returns
returns c = rw (ne_eqb _ 0 (λ e. c.if-drawn-eq0.false (c.drawn.ensures ∙ e))) c.drawn-2.ensures
