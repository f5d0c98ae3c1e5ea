-- The loop has counted (`Counted` of proofs/Counting.antt), found depths (`Deepened` of proofs/Deepening.antt) and tested the nodes below v.
-- Assumes nothing.
use mathlib.Core.Path.{◌≡◌}
use Rattle.lists.specs.Seq.{all_below}
use Rattle.plan.specs.Check.{under_block, depth_ok}
use Rattle.checker.proofs.Counting.{Counted}
use Rattle.checker.proofs.Deepening.{Deepened}
use Rattle.checker.proofs.survey.Given as goal

abbrev pub invariant-loop-v : goal.invariant-loop-v
invariant-loop-v l =
    Counted l.plan l.counts l.v × Deepened l.plan l.depths l.v × (l.blocks ≡ all_below (under_block l.plan) l.v) × (l.shallow ≡ all_below (depth_ok l.plan) l.v)
