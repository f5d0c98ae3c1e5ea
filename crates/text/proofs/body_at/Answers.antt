-- The lines of two bytes, and the line `==` behind them. Assumes nothing.
use Prim.Native.Nat.{◌*◌, ◌≤◌}
use native.Mathlib.Omega.{arith}
use lib.ListN.{length}
use Rattle.text.proofs.CallLaws.{plan-room, at_none, at_some, at_room}
use mathlib.Core.Bool.{not}
use mathlib.Core.Path.{ap}
use Rattle.text.proofs.body_at.Goals as goal
use Rattle.text.proofs.body_at.Lts
use Rattle.text.proofs.body_at.Tie
use Rattle.text.proofs.body_at.Reads

-- the lines end in the text
lines-in : (c : Lts.After-count_lines Tie.the-claims Reads.Pre Reads.Post) → 5 * c.count_lines-n.result ≤ length c.args.text.now
lines-in c = plan-room 0 _ _ c.count_lines-n.ensures

pub overflow_mul-at : goal.overflow_mul-at
overflow_mul-at c = omega (arith, lines-in c.before)

pub slice_bounds-is_bar-count : goal.slice_bounds-is_bar-count
slice_bounds-is_bar-count c = omega (arith, lines-in c.before)

pub slice_bounds-is_bar-start : goal.slice_bounds-is_bar-start
slice_bounds-is_bar-start c = omega (arith, lines-in c.before)

pub returns-then-not-is_bar : goal.returns-then-not-is_bar
returns-then-not-is_bar c = at_none _ _ c.count_lines-n.ensures c.is_bar.ensures (ap not c.if-not-is_bar.true)

pub overflow_add-result : goal.overflow_add-result
overflow_add-result c = omega (arith, at_room _ _ c.count_lines-n.ensures c.is_bar.ensures (ap not c.if-not-is_bar.false))

pub returns : goal.returns
returns c = at_some _ _ c.count_lines-n.ensures c.is_bar.ensures (ap not c.if-not-is_bar.false)
