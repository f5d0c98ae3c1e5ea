-- The loop goes from candidate to candidate (`Going` and `Sought` of proofs/SearchLaws.antt). Assumes nothing.
use Prim.Native.Nat.{◌-◌}
use lib.ListN.{take}
use Rattle.small_plans.proofs.RankLaws.{rank, rank_above}
use Rattle.next_plan.proofs.SearchLaws.{Going}
use Rattle.next_plan.proofs.search.Given as goal

abbrev pub invariant-loop-m : goal.invariant-loop-m
invariant-loop-m l = Going (take l.n l.initial.q) l.q l.m l.k

abbrev pub decreases-loop-m : goal.decreases-loop-m
decreases-loop-m l = rank_above 12 - rank (take l.m l.q)
