use Rattle.std.proofs.Common.{◌≡◌, true, ◌<◌, List, ℕ, arith}
use Rattle.plan.specs.Plan.{size}
use Rattle.plan.specs.Check.{length_ok, at_all}
use Rattle.depth_form.specs.Form.{depth_at, level_ok}
use Rattle.convert.proofs.FormLaws.{Forming, lines-told, form-room, form-root, FormTurn, form-deep, form-flat, form-turn-room, form-turn, form-done}
use Rattle.convert.proofs.write_plan.Goals as goal

-- a turn of the loop, behind the tests
turn : {d out last : List ℕ} {v n e : ℕ} → length_ok d ≡ true → at_all level_ok d ≡ true → Forming d out last v → v < n → n ≡ size d → e ≡ depth_at d v → FormTurn d out last v e
turn {d} long levels forming l q e = record { right = lines-told d long levels; so-far = forming; within = omega arith; deep = e }

pub kind_at-requires : goal.kind_at-requires
kind_at-requires c = let r = c.requires in (lines-told _ r.0 r.1).long.some

pub set_line-requires : goal.set_line-requires
set_line-requires c = let r = c.requires in form-room (lines-told _ r.0 r.1) c.args.out.now r.2

pub loop-v-init : goal.loop-v-init
loop-v-init c = let r = c.requires in rw c.set_line.ensures (form-root (lines-told _ r.0 r.1) c.args.out.now r.2 _ c.kind_at.ensures)

pub overflow_sub-e : goal.overflow_sub-e
overflow_sub-e c = let r = c.requires in omega (arith, form-deep (turn r.0 r.1 c.loop-v.invariant c.loop-v-test.true c.node_count-v-end.ensures c.depth_at-e.ensures))

pub bounds-last-e : goal.bounds-last-e
bounds-last-e c = let r = c.requires in omega (arith, form-flat (turn r.0 r.1 c.loop-v.invariant c.loop-v-test.true c.node_count-v-end.ensures c.depth_at-e.ensures))

pub set_line-requires-in-loop-v : goal.set_line-requires-in-loop-v
set_line-requires-in-loop-v c = let r = c.requires in form-turn-room (turn r.0 r.1 c.loop-v.invariant c.loop-v-test.true c.node_count-v-end.ensures c.depth_at-e.ensures)

pub overflow_cast-last : goal.overflow_cast-last
overflow_cast-last c =
    let r = c.requires in
    let t = turn r.0 r.1 c.loop-v.invariant c.loop-v-test.true c.node_count-v-end.ensures c.depth_at-e.ensures in
    omega (arith, t.within, t.right.long.few)

pub bounds-last-e-in-loop-v : goal.bounds-last-e-in-loop-v
bounds-last-e-in-loop-v c = let r = c.requires in omega (arith, form-flat (turn r.0 r.1 c.loop-v.invariant c.loop-v-test.true c.node_count-v-end.ensures c.depth_at-e.ensures))

pub loop-v-preserved : goal.loop-v-preserved
loop-v-preserved c =
    let r = c.requires in
    rw c.set_line-in-loop-v.ensures (form-turn (turn r.0 r.1 c.loop-v.invariant c.loop-v-test.true c.node_count-v-end.ensures c.depth_at-e.ensures) _ c.kind_at-in-loop-v.ensures)

pub shape_of-out : goal.shape_of-out
shape_of-out c = let r = c.requires in omega (arith, c.loop-v.invariant.lines.long, r.2, (lines-told _ r.0 r.1).long.even)

pub returns : goal.returns
returns c = form-done c.loop-v.invariant (omega (arith, c.loop-v-test.false, c.node_count-v-end.ensures))
