use mathlib.Core.Path.{◌∙◌, sym, ap}
use native.Mathlib.Omega.{arith}
use borrow.Author.Rules.{rules}
use Rattle.simulation.proofs.OwnLaws.{laid_kept}
use Rattle.simulation.proofs.RunLaws.{run_none, run-turn, run-state, run-numbers}
use Rattle.simulation.proofs.run_all.Goals as goal

pub loop-i-init : goal.loop-i-init
loop-i-init c = run_none _ _ _ _ c.requires.numbers_len

pub overflow_mul-f : goal.overflow_mul-f
overflow_mul-f c = omega (arith, c.loop-i.invariant.long)

pub bounds-steps-f : goal.bounds-steps-f
bounds-steps-f c = omega (arith, c.loop-i.invariant.long)

pub overflow_add-f : goal.overflow_add-f
overflow_add-f c = omega (arith, c.loop-i.invariant.long)

pub bounds-steps-f-in-loop-i : goal.bounds-steps-f-in-loop-i
bounds-steps-f-in-loop-i c = omega (arith, c.loop-i.invariant.long)

pub overflow_add-f-in-loop-i : goal.overflow_add-f-in-loop-i
overflow_add-f-in-loop-i c = omega (arith, c.loop-i.invariant.long)

pub bounds-steps-f-in-loop-i-2 : goal.bounds-steps-f-in-loop-i-2
bounds-steps-f-in-loop-i-2 c = omega (arith, c.loop-i.invariant.long)

pub advance-v-requires : goal.advance-v-requires
advance-v-requires c = laid_kept _ _ _ _ c.requires.laid c.loop-i.invariant.kept

pub loop-i-preserved : goal.loop-i-preserved
loop-i-preserved c =
    run-turn _ _ _ _ _ _ c.loop-i.invariant (omega (arith, c.loop-i.invariant.long, c.requires.numbers_len)) _ _ _ c.from.ensures c.from-in-loop-i.ensures c.from-in-loop-i-2.ensures _ _ c.advance-v.ensures
    _ (ap (λ r. r.number) c.from-report.ensures) (search rules)

pub shape_of-state : goal.shape_of-state
shape_of-state c = c.loop-i.invariant.kept

pub shape_of-numbers : goal.shape_of-numbers
shape_of-numbers c = c.loop-i.invariant.long ∙ sym c.requires.numbers_len

pub returns : goal.returns
returns c = record { state_after = run-state _ _ _ _ _ _ c.loop-i.invariant (omega (arith, c.loop-i.invariant.long)); numbers_after = run-numbers _ _ _ _ _ _ c.loop-i.invariant (omega (arith, c.loop-i.invariant.long)) }
