-- The bytes that are left give, from w on, what the whole line gives. Assumes nothing.
use Rattle.text.proofs.PrintLaws.{HexLeft}
use Rattle.text.proofs.write_line.Given as goal

abbrev pub invariant-loop-b : goal.invariant-loop-b
invariant-loop-b l = HexLeft l.bytes l.initial.out l.initial.w l.out l.w l.b-index
