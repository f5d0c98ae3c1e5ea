use Rattle.std.proofs.Common.{◌∙◌, sym, arith}
use Rattle.find_way.proofs.ChooseLaws.{choose-given, choose-known, choose-small, choose-turn, choose-done}
use Rattle.find_way.proofs.choose.Goals as goal

pub climb-requires : goal.climb-requires
climb-requires c = let h = c.loop-b.invariant in (choose-given h, h.before.within, choose-known h)

pub returns-then-is_open : goal.returns-then-is_open
returns-then-is_open c = (choose-done c.loop-b.invariant _ c.climb.ensures (sym c.is_open.ensures ∙ c.if-is_open.true), c.climb.ensures)

pub loop-b-preserved : goal.loop-b-preserved
loop-b-preserved c = choose-turn c.loop-b.invariant _ c.climb.ensures (sym c.is_open.ensures ∙ c.if-is_open.false)

-- behind the last byte: there is always one that does
pub returns-else-is_open : goal.returns-else-is_open
returns-else-is_open c = let s = choose-small c.loop-b.invariant _ c.climb.ensures (sym c.is_open.ensures ∙ c.if-is_open.false) in absurd (omega arith)
