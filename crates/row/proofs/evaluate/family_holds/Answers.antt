-- Each of the children, then any of the family. Assumes nothing.
use Rattle.std.proofs.Common.{sym, ◌∙◌}
use Rattle.row.proofs.EvaluateLaws.{family-fails, family-each, family-any}
use Rattle.row.proofs.evaluate.family_holds.Goals as goal

pub returns-then-not-each_holds : goal.returns-then-not-each_holds
returns-then-not-each_holds c = sym (family-fails _ _ _ _ (sym c.each_holds.ensures ∙ c.if-not-each_holds.true))

pub returns-then-s-eq0 : goal.returns-then-s-eq0
returns-then-s-eq0 c = let e = c.before.before.before in sym (family-each _ _ _ _ (sym e.each_holds.ensures ∙ e.if-not-each_holds.false) c.if-s-eq0.true)

pub returns : goal.returns
returns c = let z = c.before.before in let e = z.before.before in c.any_holds.ensures ∙ sym (family-any _ _ _ _ (sym e.each_holds.ensures ∙ e.if-not-each_holds.false) z.if-s-eq0.false)
