-- The invariant is `Showing` of proofs/ChooseLaws.antt. Assumes nothing.
use mathlib.Core.Path.{◌≡◌}
use lib.ListN.{length}
use Rattle.find_way.proofs.ChooseLaws.{Showing}
use Rattle.find_way.proofs.search.Given as goal

abbrev pub invariant-loop-i : goal.invariant-loop-i
invariant-loop-i l = Showing l.quest.plan.now l.quest.links.now.first l.quest.links.now.next l.quest.target l.answers l.table l.i × (length l.answers ≡ length l.initial.answers)
