-- The lines of the nodes that are left give, from w on, what all of them give from where it began. Assumes nothing.
use Rattle.lists.specs.Seq.{up_from}
use Rattle.plan.specs.Plan.{size}
use Rattle.script.specs.Script.{node_line}
use Rattle.lists.proofs.Each.{EachLeft}
use Rattle.script.proofs.put_nodes.Given as goal

abbrev pub invariant-loop-v : goal.invariant-loop-v
invariant-loop-v l = EachLeft (node_line l.plan (record { marks = l.marks; classes = l.classes })) (up_from 0 (size l.plan)) l.initial.out l.initial.w l.out l.w l.v
