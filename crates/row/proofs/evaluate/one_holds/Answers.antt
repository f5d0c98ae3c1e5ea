-- One law for each way out. Assumes nothing.
use Rattle.std.proofs.Common.{sym, ◌∙◌}
use Rattle.row.proofs.EvaluateLaws.{one_none, one-some}
use Rattle.row.proofs.evaluate.one_holds.Goals as goal

pub returns-then-s : goal.returns-then-s
returns-then-s c = sym (one_none _ _ c.if-s.true)

pub returns : goal.returns
returns c = c.heard.ensures ∙ sym (one-some _ _ c.if-s.false)
