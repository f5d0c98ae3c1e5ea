use mathlib.Core.Path.{◌≡◌, refl, ◌∙◌}
use mathlib.Core.Logic.{◌⊎◌, inl, inr}
use Prim.Native.Nat.{◌+◌, ◌*◌, ◌≤◌, ◌<◌}
use lib.ListN.{get_or, set}
use native.Mathlib.Omega.{arith}
use Rattle.desk_layout.proofs.SplitLaws.{within-three, Splitting, split-none, split-turn, split-room, split-front, split-marks, split-low, split-above}
use Rattle.desk_layout.proofs.split.Goals as goal
use Rattle.desk_layout.proofs.split.Goals.{then-top-d, else-top-d}
use Rattle.desk_layout.proofs.split.Lts
use Rattle.desk_layout.proofs.split.Tie
use Rattle.desk_layout.proofs.split.Reads

-- a turn, for a number that is above the old one and this desk, and no higher than it must be
turn : (c : Lts.Joined1 Tie.the-claims Reads.Pre Reads.Post goal.the-invariant-loop-v goal.the-decreases-loop-v Tie.handed_clauses) → let a = c.args in let i = c.loop-v in c.from-d.result < c.if-top-d.top → i.top ≤ c.if-top-d.top → (c.if-top-d.top ≡ i.top) ⊎ (c.if-top-d.top ≡ c.from-d.result + 1) →
    Splitting a.plan.now (set (set i.two (2 * i.v) (get_or a.plan.now (3 * i.v) 0)) (2 * i.v + 1) (get_or a.plan.now (3 * i.v + 1) 0)) (set i.row c.from-d.result 0) c.if-top-d.top (i.v + 1)
turn c mine old least = split-turn _ _ _ _ _ c.loop-v.invariant _ _ (c.from-d.ensures ∙ c.desk_at.ensures) mine old least c.requires.1 (omega (arith, c.node_count-n.ensures)) (omega arith) _ _ refl refl

pub loop-v-init : goal.loop-v-init
loop-v-init c = split-none _ _ _ c.requires.0 c.requires.2

pub bounds-plan-v : goal.bounds-plan-v
bounds-plan-v c = let h = within-three c.args.plan.now c.loop-v.v 0 (omega (arith, c.node_count-n.ensures)) (omega arith) in omega arith

pub bounds-plan-v-in-loop-v : goal.bounds-plan-v-in-loop-v
bounds-plan-v-in-loop-v c = let h = within-three c.args.plan.now c.loop-v.v 1 (omega (arith, c.node_count-n.ensures)) (omega arith) in omega arith

pub bounds-two-v-in-loop-v : goal.bounds-two-v-in-loop-v
bounds-two-v-in-loop-v c = split-room _ _ _ _ _ c.loop-v.invariant c.requires.1 (omega (arith, c.node_count-n.ensures)) _

pub desk_at-requires : goal.desk_at-requires
desk_at-requires c = omega (arith, c.node_count-n.ensures)

pub loop-v-preserved : goal.loop-v-preserved
loop-v-preserved c = elim c.if-top-d.branch [ then-top-d w ↦ turn c.before (omega arith) (omega arith) (inr w.top-is) | else-top-d w ↦ turn c.before (omega arith) (omega arith) (inl w.top-is) ]

pub returns : goal.returns
returns c = let e = c.node_count-n.ensures in
    let i = c.loop-v.invariant in
    record { two_after = split-front _ _ _ _ _ i (omega arith); row_after = split-marks _ _ _ _ _ i (omega arith); plan_value = (split-low _ _ _ _ _ i (omega arith), split-above _ _ _ _ _ i (omega arith)) }
