-- The invariant is `Climbing` of proofs/TableLaws.antt. Assumes nothing.
use Rattle.find_way.proofs.TableLaws.{Climbing}
use Rattle.find_way.proofs.climb.Given as goal

abbrev pub invariant-loop-table : goal.invariant-loop-table
invariant-loop-table l = Climbing l.quest.plan.now l.quest.links.now.first l.quest.links.now.next l.front.answers.now l.front.fixed l.quest.target l.node l.table l.v

abbrev pub decreases-loop-table : goal.decreases-loop-table
decreases-loop-table l = l.v
