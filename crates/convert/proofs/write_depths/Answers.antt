use Rattle.std.proofs.Common.{◌≡◌, ◌<◌, List, ℕ, arith}
use Rattle.plan.specs.Plan.{size, parent}
use Rattle.plan.specs.Check.{Accepted}
use Rattle.convert.proofs.LineLaws.{write-room}
use Rattle.convert.proofs.DepthsLaws.{Deepening, deep_room, deep-root, DeepTurn, deep-low, deep-read, deep-small, deep-turn, deep-done}
use Rattle.convert.proofs.write_depths.Goals as goal

-- a turn of the loop
turn : {p out : List ℕ} {v n u : ℕ} → Accepted p → Deepening p out v → v < n → n ≡ size p → u ≡ parent p v → DeepTurn p out v u
turn ok deepening l q e = record { accepted = ok; so-far = deepening; within = omega arith; above = e }

pub kind_at-requires : goal.kind_at-requires
kind_at-requires c = c.requires.0.some

pub set_line-requires : goal.set_line-requires
set_line-requires c = let r = c.requires in deep_room r.0 c.args.out.now r.1

pub loop-v-init : goal.loop-v-init
loop-v-init c = let r = c.requires in rw c.set_line.ensures (deep-root r.0 c.args.out.now r.1 _ c.kind_at.ensures)

pub overflow_mul-d : goal.overflow_mul-d
overflow_mul-d c = omega (arith, deep-low (turn c.requires.0 c.loop-v.invariant c.loop-v-test.true c.node_count-v-end.ensures c.parent_at-u.ensures))

pub overflow_add-d : goal.overflow_add-d
overflow_add-d c = omega (arith, deep-low (turn c.requires.0 c.loop-v.invariant c.loop-v-test.true c.node_count-v-end.ensures c.parent_at-u.ensures))

pub bounds-out-u : goal.bounds-out-u
bounds-out-u c = omega (arith, deep-read (turn c.requires.0 c.loop-v.invariant c.loop-v-test.true c.node_count-v-end.ensures c.parent_at-u.ensures))

pub overflow_add-d-in-loop-v : goal.overflow_add-d-in-loop-v
overflow_add-d-in-loop-v c = omega (arith, deep-small (turn c.requires.0 c.loop-v.invariant c.loop-v-test.true c.node_count-v-end.ensures c.parent_at-u.ensures))

pub set_line-requires-in-loop-v : goal.set_line-requires-in-loop-v
set_line-requires-in-loop-v c = let t = turn c.requires.0 c.loop-v.invariant c.loop-v-test.true c.node_count-v-end.ensures c.parent_at-u.ensures in write-room t.so-far.lines t.within

pub loop-v-preserved : goal.loop-v-preserved
loop-v-preserved c =
    rw c.set_line-in-loop-v.ensures (deep-turn (turn c.requires.0 c.loop-v.invariant c.loop-v-test.true c.node_count-v-end.ensures c.parent_at-u.ensures) _ c.kind_at-in-loop-v.ensures)

pub shape_of-out : goal.shape_of-out
shape_of-out c = let r = c.requires in omega (arith, c.loop-v.invariant.lines.long, r.0.even, r.1)

pub returns : goal.returns
returns c = deep-done c.loop-v.invariant (omega (arith, c.loop-v-test.false, c.node_count-v-end.ensures))
