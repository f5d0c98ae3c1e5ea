-- The marks below v are written so far. Assumes nothing.
use Prim.Native.Nat.{◌+◌, ◌*◌}
use lib.ListN.{get_or}
use Rattle.lists.proofs.Filling.{Filling}
use Rattle.layout.specs.Layout.{via, mark_byte}
use Rattle.layout.proofs.write_marks.Given as goal

abbrev pub invariant-loop-v : goal.invariant-loop-v
invariant-loop-v l = Filling (λ u. mark_byte (get_or l.state (via l.lay.home.now u * l.n + u) 0)) l.n l.marks l.v
