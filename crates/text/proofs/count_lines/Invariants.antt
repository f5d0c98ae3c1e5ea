-- n lines stand before what is left of the text. Assumes nothing.
use Rattle.std.proofs.Common.{length}
use Rattle.text.proofs.TextLaws.{Counted}
use Rattle.text.proofs.count_lines.Given as goal

abbrev pub invariant-loop-rest : goal.invariant-loop-rest
invariant-loop-rest l = Counted l.k l.text l.rest l.n

abbrev pub decreases-loop-rest : goal.decreases-loop-rest
decreases-loop-rest l = length l.rest
