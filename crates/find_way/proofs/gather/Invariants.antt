-- The invariant is `Gathering` of proofs/GatherLaws.antt. Assumes nothing.
use lib.ListN.{length}
use Rattle.links.specs.Links.{led_to}
use Rattle.find_way.proofs.GatherLaws.{Gathering}
use Rattle.find_way.proofs.gather.Given as goal

abbrev pub invariant-loop-c : goal.invariant-loop-c
invariant-loop-c l = Gathering l.quest.plan.now l.quest.links.now.first l.quest.links.now.next l.front.answers.now l.front.fixed l.table l.v l.h l.place l.c

abbrev pub decreases-loop-c : goal.decreases-loop-c
decreases-loop-c l = length (led_to l.quest.plan.now l.v l.c)
