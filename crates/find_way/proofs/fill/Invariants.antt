-- The invariant is `Filling` of proofs/TableLaws.antt. Assumes nothing.
use Rattle.find_way.proofs.TableLaws.{Filling}
use Rattle.find_way.proofs.fill.Given as goal

abbrev pub invariant-loop-v : goal.invariant-loop-v
invariant-loop-v l = Filling l.quest.plan.now l.quest.links.now.first l.quest.links.now.next l.front.answers.now l.front.fixed l.quest.target l.table l.v
