use mathlib.Core.Path.{◌∙◌, ap}
use Prim.Native.Nat.{ℕ}
use native.Mathlib.Omega.{arith}
use lib.ListN.{get_or}
use Rattle.lists.proofs.Filling.{fill_none, fill-turn}
use Rattle.desk_layout.proofs.PrepareLaws.{nodes-few, home-in, homes-are}
use borrow.Author.Rules.{rules}
use Rattle.desk_layout.proofs.write_homes.Goals as goal

pub loop-v-init : goal.loop-v-init
loop-v-init c = (omega arith, fill_none _ _ _ c.requires.2)

pub bounds-row-from : goal.bounds-row-from
bounds-row-from c = home-in _ c.requires.0 _ c.requires.1 _ (omega (arith, c.node_count-n.ensures)) _ (c.from.ensures ∙ c.desk_at.ensures)

pub bounds-home-v : goal.bounds-home-v
bounds-home-v c = omega (arith, c.loop-v.invariant.1.long, nodes-few _ c.requires.0, c.node_count-n.ensures)

pub loop-v-preserved : goal.loop-v-preserved
loop-v-preserved c = let e = c.node_count-n.ensures in (omega arith, fill-turn _ _ _ _ _ c.loop-v.invariant.1 (omega (arith, nodes-few _ c.requires.0)) (ap (λ (i : ℕ). get_or c.args.row.now i 0) (c.from.ensures ∙ c.desk_at.ensures)))

pub shape_of-home : goal.shape_of-home
shape_of-home c = let i = c.loop-v.invariant.1.long in search rules

pub returns : goal.returns
returns c = homes-are _ c.requires.0 _ c.requires.1 _ _ c.loop-v.invariant.0 (omega (arith, c.node_count-n.ensures)) c.loop-v.invariant.1
