-- The frames below i are right. Assumes nothing.
use mathlib.Core.Path.{◌≡◌}
use mathlib.Core.Bool.{true}
use Prim.Native.Nat.{◌≤◌}
use Rattle.lists.specs.Seq.{all_below}
use Rattle.retention.specs.Record.{frame_ok}
use Rattle.retention.proofs.check_table.Given as goal

abbrev pub invariant-loop-i : goal.invariant-loop-i
invariant-loop-i l = (l.i ≤ 6) × (all_below (frame_ok l.table) l.i ≡ true)
