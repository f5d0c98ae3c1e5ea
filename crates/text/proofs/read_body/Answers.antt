-- The plan's lines, then the steps'. Assumes nothing.
use native.Mathlib.Omega.{arith}
use Rattle.text.proofs.CallLaws.{laid-plan, laid-steps, laid-plan-done, laid-steps-done}
use borrow.Author.Rules.{rules}
use Rattle.text.proofs.read_body.Goals as goal

pub decode-requires : goal.decode-requires
decode-requires c = record { k_bound = search rules; n_value = laid-plan c.requires }

pub slice_bounds-decode-count : goal.slice_bounds-decode-count
slice_bounds-decode-count c = omega (arith, c.requires.room)

pub slice_bounds-decode-start : goal.slice_bounds-decode-start
slice_bounds-decode-start c = omega (arith, c.requires.room)

pub decode-requires-2 : goal.decode-requires-2
decode-requires-2 c = record { k_bound = search rules; n_value = laid-steps c.requires }

pub returns : goal.returns
returns c = record { plan_after = laid-plan-done c.requires _ c.decode.ensures; steps_after = laid-steps-done c.requires _ c.decode-2.ensures }
