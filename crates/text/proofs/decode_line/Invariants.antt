-- The bytes that are left of the line give, from w on, what the whole line gives. Assumes nothing.
use Rattle.std.proofs.Common.{◌+◌}
use Rattle.text.proofs.DecodeLaws.{LineLeft}
use Rattle.text.proofs.decode_line.Given as goal

abbrev pub invariant-loop-i : goal.invariant-loop-i
invariant-loop-i l = LineLeft l.k l.text l.initial.out l.at l.out (l.at + l.i) l.i
