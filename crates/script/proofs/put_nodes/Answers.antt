use native.Mathlib.Omega.{arith}
use Rattle.lists.proofs.Each.{each_all, each-place}
use Rattle.script.proofs.LineLaws.{node-length, nodes-turn, nodes-done}
use Rattle.script.proofs.put_nodes.Goals as goal

pub loop-v-init : goal.loop-v-init
loop-v-init c = each_all _ _ _ _

pub put_node-w-requires : goal.put_node-w-requires
put_node-w-requires c = omega (arith, each-place c.loop-v.invariant 9 (node-length _ _), c.loop-v.invariant.left.long, c.node_count-n.ensures)

pub loop-v-preserved : goal.loop-v-preserved
loop-v-preserved c = nodes-turn _ _ c.node_count-n.ensures c.loop-v.invariant c.loop-v-test.true c.put_node-w.ensures

pub shape_of-out : goal.shape_of-out
shape_of-out c = c.loop-v.invariant.left.long

pub returns : goal.returns
returns c = nodes-done _ _ c.node_count-n.ensures c.loop-v.invariant c.loop-v-test.false
