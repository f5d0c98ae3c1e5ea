-- The lines that are left in the text give, from w on, what all of them give from the front. Assumes nothing.
use Rattle.text.proofs.DecodeLaws.{LinesLeft}
use Rattle.text.proofs.decode.Given as goal

abbrev pub invariant-loop : goal.invariant-loop
invariant-loop l = LinesLeft l.k l.text l.n l.initial.out l.at l.out l.w l.counter
