use mathlib.Core.Path.{sym, ◌∙◌, ap}
use native.Mathlib.Omega.{arith}
use lib.ListN.{length, length-replicate}
use Rattle.plan.specs.Check.{under_block, depth_ok}
use Rattle.checker.proofs.TestLaws.{test-and, test-all, Turn}
use Rattle.checker.proofs.Counting.{Counted, count_none, count-none-told, count_room, count_fits, count_turn, count-done}
use Rattle.checker.proofs.Deepening.{Deepened, deep-root, deep-root-told, deep_room, deep-fits, deep-told, deep-turn, deep-done}
use Rattle.checker.proofs.survey.Goals as goal
use Rattle.checker.proofs.survey.Lts
use Rattle.checker.proofs.survey.Tie
use Rattle.checker.proofs.survey.Reads

pub loop-v-init : goal.loop-v-init
loop-v-init c =
    let r = c.requires in
    (rw r.1 (count_none _ r.0), deep-root _ c.args.depths.now r.0 r.2, count-none-told _, deep-root-told _)

-- a turn of the loop, with what it has done so far
turn : (c : Lts.After-parent_at Tie.the-claims Reads.Pre Reads.Post goal.the-invariant-loop-v goal.the-decreases-loop-v Tie.handed_clauses) (S : Type 0) → S →
    Turn S c.args.plan.now c.loop-v.v c.parent_at-u.result
turn c S s = record {
  ordered = c.requires.0;
  so-far = s;
  first = c.loop-v.invariant.0.first;
  within = omega arith;
  up = c.parent_at-u.ensures;
}

counting : (c : Lts.After-parent_at Tie.the-claims Reads.Pre Reads.Post goal.the-invariant-loop-v goal.the-decreases-loop-v Tie.handed_clauses) →
    Turn (Counted c.args.plan.now c.loop-v.counts c.loop-v.v) c.args.plan.now c.loop-v.v c.parent_at-u.result
counting c = turn c _ c.loop-v.invariant.0

deepening : (c : Lts.After-parent_at Tie.the-claims Reads.Pre Reads.Post goal.the-invariant-loop-v goal.the-decreases-loop-v Tie.handed_clauses) →
    Turn (Deepened c.args.plan.now c.loop-v.depths c.loop-v.v) c.args.plan.now c.loop-v.v c.parent_at-u.result
deepening c = turn c _ c.loop-v.invariant.1

pub bounds-counts-u : goal.bounds-counts-u
bounds-counts-u c = omega (arith, count_room (counting c.before.before))

pub overflow_add-counts : goal.overflow_add-counts
overflow_add-counts c = omega (arith, count_fits (counting c.before.before))

pub bounds-counts-u-in-loop-v : goal.bounds-counts-u-in-loop-v
bounds-counts-u-in-loop-v c = omega (arith, count_room (counting c.before.before))

pub bounds-depths-u : goal.bounds-depths-u
bounds-depths-u c = omega (arith, deep_room (deepening c.before.before.before))

pub overflow_add-d : goal.overflow_add-d
overflow_add-d c = omega (arith, deep-fits (deepening c.before.before.before))

pub bounds-depths-v : goal.bounds-depths-v
bounds-depths-v c = let t = deepening c.before.before.before in omega (arith, deep_room t, t.within, t.so-far.long)

pub loop-v-preserved : goal.loop-v-preserved
loop-v-preserved c = let i = c.loop-v.invariant in (
  count_turn (counting c.before.before.before),
  deep-turn (deepening c.before.before.before),
  test-and under_block _ _ _ _ i.2 c.under_block-blocks.ensures,
  test-and depth_ok _ _ _ _ i.3 (deep-told (deepening c.before.before.before)),
)

pub shape_of-counts : goal.shape_of-counts
shape_of-counts c = c.loop-v.invariant.0.long ∙ sym (ap length c.requires.1 ∙ length-replicate _ _)

pub shape_of-depths : goal.shape_of-depths
shape_of-depths c = c.loop-v.invariant.1.long ∙ sym c.requires.2

pub returns : goal.returns
returns c = let i = c.loop-v.invariant in
    let w = i.0.within in
    record { blocks_value = (test-all under_block _ _ _ i.2 w (omega arith), test-all depth_ok _ _ _ i.3 w (omega arith)); counts_after = count-done _ _ _ i.0 (omega arith); depths_after = deep-done _ _ _ i.1 (omega arith) }
