use Rattle.std.proofs.Common.{◌≡◌, ◌<◌, List, ℕ, sym, ◌∙◌, ap, arith}
use Rattle.plan.specs.Plan.{kind_byte}
use Rattle.plan.proofs.AcceptedLaws.{accepted-ordered}
use Rattle.trees.specs.Tree.{trees_below}
use Rattle.trees.proofs.TreeLaws.{trees-step}
use Rattle.placing.specs.Place.{Placeable}
use Rattle.placing.proofs.PlaceLaws.{with_line, place-small, place-node, place-room, Walking, walk_first, Turn, walk_end, walk-within, walk-ready, walk-bare, walk-leaf, walk-falls, walk-less, walk_turn, bare-below}
use Rattle.placing.proofs.+place.Goals as goal
use Rattle.placing.proofs.+place.Goals.{then-first_child-eq0, else-first_child-eq0}

below_at : {x y t : ℕ} → y ≡ t → x < y → x < t
below_at e h = omega arith

-- the loop, anywhere
turn : {p first next out b₀ b : List ℕ} {v n w c k : ℕ} (u : ℕ) → Placeable p first next out v n (trees_below p v) → b₀ ≡ with_line out n k u → k ≡ kind_byte p v →
    Walking p (trees_below p) b₀ v n b w c → Turn p (trees_below p) first next out b₀ v u n b w c
turn {out = out} {n = n} u ready line kind walk = record {
  ready = ready;
  begun = line ∙ ap (λ k. with_line out n k u) kind;
  walk = walk;
}

pub first_child-c-requires : goal.first_child-c-requires
first_child-c-requires t c = place-node c.requires

pub loop-c-init : goal.loop-c-init
loop-c-init t c = walk_first c.requires (trees-step _ (accepted-ordered _ c.requires.accepted) _ c.requires.node) _ _ _ (omega arith) c.first_child-c.ensures

pub first_child-requires : goal.first_child-requires
first_child-requires t c = walk-within (turn c.args.u c.requires c.set_line.ensures c.kind_at.ensures c.loop-c.invariant) c.loop-c-test.true

pub kind_at-requires-then-first_child-eq0 : goal.kind_at-requires-then-first_child-eq0
kind_at-requires-then-first_child-eq0 t c = (walk-ready (turn c.args.u c.requires c.set_line.ensures c.kind_at.ensures c.loop-c.invariant) c.loop-c-test.true).node

pub set_line-requires-then-first_child-eq0 : goal.set_line-requires-then-first_child-eq0
set_line-requires-then-first_child-eq0 t c = place-room (walk-ready (turn c.args.u c.requires c.set_line.ensures c.kind_at.ensures c.loop-c.invariant) c.loop-c-test.true)

pub overflow_add-w-then-first_child-eq0 : goal.overflow_add-w-then-first_child-eq0
overflow_add-w-then-first_child-eq0 t c =
    omega (arith, place-small (walk-ready (turn c.args.u c.requires c.set_line.ensures c.kind_at.ensures c.loop-c.invariant) c.loop-c-test.true))

pub place-w-requires : goal.place-w-requires
place-w-requires t c =
    let a = turn c.args.u c.requires c.set_line.ensures c.kind_at.ensures c.loop-c.invariant in
    (below_at c.decreases (walk-falls a c.loop-c-test.true), walk-ready a c.loop-c-test.true)

pub next_sibling-c-requires : goal.next_sibling-c-requires
next_sibling-c-requires t c = walk-within (turn c.args.u c.requires c.set_line.ensures c.kind_at.ensures c.loop-c.invariant) c.loop-c-test.true

pub loop-c-smaller : goal.loop-c-smaller
loop-c-smaller t c = rw c.next_sibling-c.ensures (walk-less (turn c.args.u c.requires c.set_line.ensures c.kind_at.ensures c.loop-c.invariant) c.loop-c-test.true)

pub loop-c-preserved : goal.loop-c-preserved
loop-c-preserved t c =
    let l = c.loop-c-test.true in
    let a = turn c.args.u c.requires c.set_line.ensures c.kind_at.ensures c.loop-c.invariant in
    rw c.next_sibling-c.ensures (walk_turn a l _ _ (elim c.if-first_child-eq0.branch [
      | then-first_child-eq0 w ↦ rw (w.out-is, w.set_line-then-first_child-eq0.ensures, w.w-is)
          (walk-leaf a l (bare-below _ c.requires.accepted _ (c.loop-c.invariant.child l).high (walk-bare a l (sym c.first_child.ensures ∙ w.if-first_child-eq0.true))) _ w.kind_at-then-first_child-eq0.ensures)
      | else-first_child-eq0 w ↦ rw (w.out-is, w.w-is) w.place-w.ensures
    ]))

pub returns : goal.returns
returns t c = walk_end (turn c.args.u c.requires c.set_line.ensures c.kind_at.ensures c.loop-c.invariant) c.loop-c-test.false
