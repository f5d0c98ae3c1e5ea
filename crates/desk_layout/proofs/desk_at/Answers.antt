-- Assumes nothing.
use mathlib.Core.Path.{refl}
use native.Mathlib.Omega.{arith}
use Rattle.desks.specs.Desk.{desk_of}
use Rattle.desk_layout.proofs.SplitLaws.{within-three}
use Rattle.desk_layout.proofs.desk_at.Goals as goal

pub overflow_mul-result : goal.overflow_mul-result
overflow_mul-result c = let h = within-three c.args.plan.now _ 2 c.requires (omega arith) in omega arith

pub overflow_add-result : goal.overflow_add-result
overflow_add-result c = let h = within-three c.args.plan.now _ 2 c.requires (omega arith) in omega arith

pub bounds-plan-v : goal.bounds-plan-v
bounds-plan-v c = within-three _ _ 2 c.requires (omega arith)

pub returns : goal.returns
unfolding desk_of
returns c = refl
