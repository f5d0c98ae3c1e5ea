-- The invariant is `Choosing` of proofs/ChooseLaws.antt. Assumes nothing.
use Rattle.find_way.proofs.ChooseLaws.{Choosing}
use Rattle.find_way.proofs.choose.Given as goal

abbrev pub invariant-loop-b : goal.invariant-loop-b
invariant-loop-b l = Choosing l.quest.plan.now l.quest.links.now.first l.quest.links.now.next l.quest.target l.initial.answers l.i l.answers l.table l.b
