use Rattle.std.proofs.Common.{◌≡◌, ◌<◌, List, ℕ, sym, ◌∙◌, ap, arith}
use Rattle.plan.specs.Plan.{kind_byte}
use Rattle.plan.proofs.AcceptedLaws.{accepted-ordered}
use Rattle.template.specs.Repeat.{repeated_below}
use Rattle.template.proofs.StepLaws.{step_other}
use Rattle.placing.specs.Place.{Placeable}
use Rattle.placing.proofs.PlaceLaws.{with_line, place-room, Walking, walk_first, Turn, walk_end, walk-ready, walk-bare, walk-leaf, walk-falls, walk-less, walk_turn}
use Rattle.repeat.proofs.MarkLaws.{bare-repeated, copies-ready, copies-placed}
use Rattle.repeat.proofs.+place_repeated.Goals as goal
use Rattle.repeat.proofs.+place_repeated.Goals.{then-first_child-eq0, else-first_child-eq0}

below_at : {x y t : ℕ} → y ≡ t → x < y → x < t
below_at e h = omega arith

-- the loop, anywhere
turn : {p first next out b₀ b : List ℕ} {v n w c k : ℕ} (u m count : ℕ) → Placeable p first next out v n (repeated_below p m count v) → b₀ ≡ with_line out n k u →
    k ≡ kind_byte p v → Walking p (repeated_below p m count) b₀ v n b w c → Turn p (repeated_below p m count) first next out b₀ v u n b w c
turn {out = out} {n = n} u m count ready line kind walk = record {
  ready = ready;
  begun = line ∙ ap (λ k. with_line out n k u) kind;
  walk = walk;
}

pub place_copies-requires : goal.place_copies-requires
place_copies-requires t c = copies-ready c.requires.0 _ c.args.u c.requires.1 c.if-v-of.true _ c.first_child-c.ensures _ _ c.kind_at.ensures c.set_line.ensures

pub returns-then-v-of : goal.returns-then-v-of
returns-then-v-of t c = copies-placed c.requires.0 _ c.args.u c.requires.1 c.if-v-of.true _ c.first_child-c.ensures _ _ c.kind_at.ensures c.set_line.ensures _ _ c.place_copies.ensures

pub loop-c-init : goal.loop-c-init
loop-c-init t c = walk_first c.requires.1 (step_other _ (accepted-ordered _ c.requires.0.accepted) _ _ _ c.requires.1.node c.if-v-of.false) _ _ _ (omega arith) c.first_child-c.ensures

pub set_line-requires-then-first_child-eq0 : goal.set_line-requires-then-first_child-eq0
set_line-requires-then-first_child-eq0 t c =
    place-room (walk-ready (turn c.args.u c.args.of.marked c.args.of.times c.requires.1 c.set_line.ensures c.kind_at.ensures c.loop-c.invariant) c.loop-c-test.true)

pub place_repeated-w-requires : goal.place_repeated-w-requires
place_repeated-w-requires t c =
    let a = turn c.args.u c.args.of.marked c.args.of.times c.requires.1 c.set_line.ensures c.kind_at.ensures c.loop-c.invariant in
    (below_at c.decreases (walk-falls a c.loop-c-test.true), (c.requires.0, walk-ready a c.loop-c-test.true))

pub loop-c-smaller : goal.loop-c-smaller
loop-c-smaller t c =
    rw c.next_sibling-c.ensures (walk-less (turn c.args.u c.args.of.marked c.args.of.times c.requires.1 c.set_line.ensures c.kind_at.ensures c.loop-c.invariant) c.loop-c-test.true)

pub loop-c-preserved : goal.loop-c-preserved
loop-c-preserved t c =
    let l = c.loop-c-test.true in
    let a = turn c.args.u c.args.of.marked c.args.of.times c.requires.1 c.set_line.ensures c.kind_at.ensures c.loop-c.invariant in
    rw c.next_sibling-c.ensures (walk_turn a l _ _ (elim c.if-first_child-eq0.branch [
      | then-first_child-eq0 w ↦ rw (w.out-is, w.set_line-then-first_child-eq0.ensures, w.w-is)
          (walk-leaf a l (bare-repeated c.requires.0 _ _ (c.loop-c.invariant.child l).high (walk-bare a l (sym c.first_child.ensures ∙ w.if-first_child-eq0.true))) _ w.kind_at-then-first_child-eq0.ensures)
      | else-first_child-eq0 w ↦ rw (w.out-is, w.w-is) w.place_repeated-w.ensures
    ]))

pub returns : goal.returns
returns t c = walk_end (turn c.args.u c.args.of.marked c.args.of.times c.requires.1 c.set_line.ensures c.kind_at.ensures c.loop-c.invariant) c.loop-c-test.false
