-- The tests of a well-formed text, in their order. Assumes nothing.
use Prim.Native.Nat.{◌*◌, ◌≤◌}
use native.Mathlib.Omega.{arith}
use lib.ListN.{length}
use Rattle.text.proofs.CallLaws.{plan-room, counts-no-bar, Parted, parted, bar-room, steps-room, counts-not, counts-done}
use mathlib.Core.Bool.{not}
use mathlib.Core.Path.{ap}
use Rattle.text.proofs.count_body.Goals as goal
use Rattle.text.proofs.count_body.Lts
use Rattle.text.proofs.count_body.Tie
use Rattle.text.proofs.count_body.Reads

-- the plan lines end in the text
plan-in : (c : Lts.After-count_lines Tie.the-claims Reads.Pre Reads.Post) → 5 * c.count_lines-n.result ≤ length c.args.text.now
plan-in c = plan-room 0 _ _ c.count_lines-n.ensures

-- the line `--` stands behind the plan lines
split : (c : Lts.Else1 Tie.the-claims Reads.Pre Reads.Post) → Parted c.args.text.now c.count_lines-n.result
split c = parted c.count_lines-n.ensures c.is_bar.ensures (ap not c.if-not-is_bar.false)

pub overflow_mul-at : goal.overflow_mul-at
overflow_mul-at c = omega (arith, plan-in c.before)

pub slice_bounds-is_bar-count : goal.slice_bounds-is_bar-count
slice_bounds-is_bar-count c = omega (arith, plan-in c.before)

pub slice_bounds-is_bar-start : goal.slice_bounds-is_bar-start
slice_bounds-is_bar-start c = omega (arith, plan-in c.before)

pub returns-then-not-is_bar : goal.returns-then-not-is_bar
returns-then-not-is_bar c = counts-no-bar _ _ _ c.count_lines-n.ensures c.is_bar.ensures (ap not c.if-not-is_bar.true)

pub overflow_add-from : goal.overflow_add-from
overflow_add-from c = omega (arith, bar-room (split c.before))

pub slice_bounds-count_lines-count : goal.slice_bounds-count_lines-count
slice_bounds-count_lines-count c = omega (arith, bar-room (split c.before))

pub slice_bounds-count_lines-start : goal.slice_bounds-count_lines-start
slice_bounds-count_lines-start c = omega (arith, bar-room (split c.before))

pub overflow_sub-text : goal.overflow_sub-text
overflow_sub-text c = omega (arith, bar-room (split c.before.before.before))

pub overflow_mul-m : goal.overflow_mul-m
overflow_mul-m c = omega (arith, steps-room (split c.before.before.before) c.count_lines-m.ensures)

pub returns-then-text-from : goal.returns-then-text-from
returns-then-text-from c = counts-not (split c.before.before.before.before) c.count_lines-m.ensures _ (λ e. omega arith)

pub returns : goal.returns
returns c = counts-done (split c.before.before.before.before) c.count_lines-m.ensures _ (omega arith)
