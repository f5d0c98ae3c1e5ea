-- The rows of the nodes below v are written. Assumes nothing.
use Prim.Native.Nat.{◌≤◌}
use lib.ListN.{get_or}
use Rattle.lists.proofs.Filling.{Filling}
use Rattle.desks.specs.Desk.{nodes, desk_of}
use Rattle.desk_layout.proofs.write_homes.Given as goal

abbrev pub invariant-loop-v : goal.invariant-loop-v
invariant-loop-v l = (l.v ≤ nodes l.plan) × Filling (λ u. get_or l.row (desk_of l.plan u) 0) 160 l.home l.v
