use mathlib.Core.Path.{sym, ◌∙◌}
use Prim.Native.Nat.{◌+◌, ◌*◌, ◌<◌}
use native.Mathlib.Omega.{arith}
use lib.ListN.{length}
use Rattle.lists.proofs.Filling.{fill_none, fill-turn, fill_done}
use Rattle.layout.specs.Layout.{layout_by}
use Rattle.layout.proofs.StepLaws.{row-spot}
use Rattle.layout.proofs.MarkLaws.{marks-written}
use Rattle.layout.proofs.write_marks.Goals as goal
use Rattle.layout.proofs.write_marks.Lts
use Rattle.layout.proofs.write_marks.Tie
use Rattle.layout.proofs.write_marks.Reads

-- a node's byte in the row of its own site is in the state
spot : (c : Lts.After-via Tie.the-claims Reads.Pre Reads.Post goal.the-invariant-loop-v goal.the-decreases-loop-v Tie.handed_clauses) → c.via.result * c.node_count-n.result + c.loop-v.v < length c.args.state.now
unfolding layout_by
spot c = let e = c.node_count-n.ensures in
    row-spot _ _ _ c.requires.laid 0 _ _ _ e (rw c.via.ensures (c.requires.laid.housed c.loop-v.v (omega (arith, e)))) (omega (arith, e))

pub loop-v-init : goal.loop-v-init
loop-v-init c = fill_none _ _ _ (c.requires.marks_len ∙ sym c.node_count-n.ensures)

pub overflow_mul-via : goal.overflow_mul-via
overflow_mul-via c = omega (arith, spot c.before)

pub overflow_add-via : goal.overflow_add-via
overflow_add-via c = omega (arith, spot c.before)

pub bounds-state-via : goal.bounds-state-via
bounds-state-via c = spot c.before.before

pub bounds-marks-v : goal.bounds-marks-v
bounds-marks-v c = omega (arith, c.loop-v.invariant.long)

pub loop-v-preserved : goal.loop-v-preserved
loop-v-preserved c = fill-turn _ _ _ _ _ c.loop-v.invariant (omega arith) (c.mark_byte.ensures ∙ rw c.via.ensures)

pub shape_of-marks : goal.shape_of-marks
shape_of-marks c = c.loop-v.invariant.long ∙ c.node_count-n.ensures ∙ sym c.requires.marks_len

pub returns : goal.returns
returns c = fill_done _ _ _ _ c.loop-v.invariant (omega arith) ∙ marks-written _ _ _ _ _ c.node_count-n.ensures
