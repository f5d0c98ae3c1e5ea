-- A free slot has no point; else the place is the word's, less one. Assumes nothing.
use mathlib.Core.Path.{sym}
use Rattle.points.proofs.SlotLaws.{past-free, past_is}
use Rattle.points.proofs.is_past.Goals as goal

pub returns-then-word-eq0 : goal.returns-then-word-eq0
returns-then-word-eq0 c = sym (past-free _ _ c.if-word-eq0.true)

pub returns : goal.returns
returns c = past_is _ _ c.if-word-eq0.false
