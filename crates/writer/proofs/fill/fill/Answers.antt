-- The nodes that the guard names are gathered at the front of the local array, and the guard is its shape over those. Assumes nothing.
use Rattle.std.proofs.Common.{sym, ap, ◌∙◌, ◌≤◌, arith, length, rules}
use Rattle.event.specs.Event.{code_of, event_of}
use Rattle.guard.specs.Guard.{before_in, guard}
use Rattle.guard.specs.Family.{named_nodes}
use Rattle.guard.specs.Shape.{shape_bytes}
use Rattle.guard.proofs.ShapeLaws.{GivesGuard, shape-node}
use Rattle.guard.proofs.PutLaws.{put_as, front, front_length, front-in}
use Rattle.guard.proofs.Short.{guard-short}
use Rattle.guard.proofs.NamedLaws.{named-few, guard-shape, shape_is, neighbour-named}
use Rattle.writer.proofs.fill.fill.Goals as goal
use Rattle.writer.proofs.fill.fill.Lts
use Rattle.writer.proofs.fill.fill.Tie
use Rattle.writer.proofs.fill.fill.Reads

few : (c : Lts.After-named_nodes Tie.the-claims Reads.Pre Reads.Post) → let a = c.args in length (named_nodes a.plan.now (code_of a.code) a.v) ≤ 32
few c = named-few _ c.requires.0 _ _

-- the shape is the guard's, and gives it
module _ (c : Lts.After-shape_of Tie.the-claims Reads.Pre Reads.Post) where
  gives : let a = c.args in
      GivesGuard c.shape_of-s.result (named_nodes a.plan.now (code_of a.code) a.v) (guard a.plan.now (event_of a.code a.v))
  gives = let k = c.before.before.before.before.before.before.before.before.before.before in
      let s = k.before.before.before.before in
      let v = s.args.v in
      let w = c.before.before.before.before.before.before in
      let n = w.from-b.ensures ∙ w.before-2.ensures ∙ ap (λ l. before_in v l v) (front k.named_nodes-n.ensures (few k)) ∙ neighbour-named s.args.plan.now s.requires.0 (code_of s.args.code) v in
      rw (shape_is s.args.plan.now s.args.code v c.kind.ensures c.above.ensures
      (c.from-u.ensures ∙ c.parent.ensures) c.from.ensures (λ low high. n) c.shape_of-s.ensures)
      (guard-shape _ _ _)

  -- its node fits a byte
  node-fits : c.shape_of-s.result.node ≤ 255
  node-fits = rw c.shape_of-s.ensures (shape-node _ _ _ 255 (omega arith) (omega arith) (omega arith) _ _ _)

pub named_nodes-n-requires : goal.named_nodes-n-requires
named_nodes-n-requires c = (c.requires.0, search rules)

pub slice_bounds-cs-end : goal.slice_bounds-cs-end
slice_bounds-cs-end c = front-in c.named_nodes-n.ensures (few c.before.before)

pub slice_bounds-before-end : goal.slice_bounds-before-end
slice_bounds-before-end c = front_length c.named_nodes-n.ensures (few c.before.before.before)

pub slice_bounds-cs-end-2 : goal.slice_bounds-cs-end-2
slice_bounds-cs-end-2 c = let k = c.before.before.before.before.before.before.before.before.before.before.before in front-in k.named_nodes-n.ensures (few k)

pub slice_bounds-put_shape-end : goal.slice_bounds-put_shape-end
slice_bounds-put_shape-end c = let k = c.before.before.before.before.before.before.before.before.before.before.before.before in front_length k.named_nodes-n.ensures (few k)

pub put_shape-requires : goal.put_shape-requires
put_shape-requires c = let r = gives c.before.before.before in
    let k = c.before.before.before.before.before.before.before.before.before.before.before.before.before in
    let s = k.before.before.before.before in
    let f = front k.named_nodes-n.ensures (few k) in (
      node-fits c.before.before.before,
      r.few,
      rw f (few k),
      rw f (omega (arith, ap length r.bytes, guard-short s.args.plan.now s.requires.0 (event_of s.args.code s.args.v), s.requires.1)),
    )

pub returns : goal.returns
returns c = let r = c.before.before.before.before.before.before in
    let k = r.before.before.before.before.before.before.before.before.before.before in
    put_as (sym (gives r).bytes ∙ ap (shape_bytes r.shape_of-s.result) (sym (front k.named_nodes-n.ensures (few k)))) c.put_shape.ensures
