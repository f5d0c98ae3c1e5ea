-- The bytes below i are digits. Assumes nothing.
use Rattle.std.proofs.Common.{◌≡◌, true}
use Rattle.lists.specs.Seq.{all_below}
use Rattle.text.specs.Hex.{digit_at}
use Rattle.text.proofs.is_line.Given as goal

abbrev pub invariant-loop-i : goal.invariant-loop-i
invariant-loop-i l = all_below (digit_at l.text) l.i ≡ true
