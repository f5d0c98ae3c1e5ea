-- By whom. Assumes nothing.
use Rattle.std.proofs.Common.{refl, arith}
use Rattle.find_audience.specs.Whom.{whom_list}
use Rattle.find_audience.proofs.put.Goals as goal

pub bounds-buf-0 : goal.bounds-buf-0
unfolding whom_list
bounds-buf-0 c = let h = rw c.in-Node.is at c.requires.to_in_bounds in omega arith

pub gather-requires : goal.gather-requires
unfolding whom_list
gather-requires c = record { plan_bound = c.requires.plan_bound; u_in_bounds = rw c.in-ChildrenOf.is at c.requires.to_in_bounds }

pub returns-in-Nobody : goal.returns-in-Nobody
unfolding whom_list
returns-in-Nobody c = rw c.in-Nobody.is (record { place = omega arith; held = refl })

pub returns-in-Node : goal.returns-in-Node
unfolding whom_list
returns-in-Node c = rw c.in-Node.is (record { place = omega arith; held = refl })

pub returns-in-ChildrenOf : goal.returns-in-ChildrenOf
unfolding whom_list
returns-in-ChildrenOf c = rw c.in-ChildrenOf.is c.gather.ensures
