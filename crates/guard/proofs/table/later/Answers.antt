-- Each arm is its line of the table. Assumes nothing.
use mathlib.Core.Path.{◌∙◌}
use native.Mathlib.Omega.{arith}
use Rattle.plan.specs.Plan.{kind_of}
use Rattle.plan.proofs.KindLaws.{kind-other}
use Rattle.event.specs.Event.{code_number}
use Rattle.guard.specs.Shape.{later_shape}
use Rattle.guard.proofs.Between.{of_three}
use Rattle.guard.proofs.table.later.Goals as goal
use Rattle.guard.proofs.table.later.Goals.{in_default-via-then-above-lt2, in_default-via-else-above-lt2+else-above-lt6}

pub returns-in-2 : goal.returns-in-2
unfolding kind_of later_shape code_number
returns-in-2 c = c.one_event.ensures ∙ rw c.in-2.is

pub returns-in-6 : goal.returns-in-6
unfolding kind_of later_shape code_number
returns-in-6 c = c.one_event-in-6.ensures ∙ rw c.in-6.is

pub returns-in-7 : goal.returns-in-7
unfolding kind_of later_shape code_number
returns-in-7 c = c.one_event-in-7.ensures ∙ rw c.in-7.is

pub returns-in-8 : goal.returns-in-8
unfolding kind_of later_shape code_number
returns-in-8 c = c.one_event-in-8.ensures ∙ rw c.in-8.is

pub returns-in-3-to-5 : goal.returns-in-3-to-5
unfolding kind_of later_shape code_number
returns-in-3-to-5 c = let a = c.args in of_three (λ k. later_shape (kind_of k) a.u a.b) a.above 3 (omega arith) (omega arith) c.one_event-in-3-to-5.ensures c.one_event-in-3-to-5.ensures c.one_event-in-3-to-5.ensures

pub returns-in_default : goal.returns-in_default
unfolding kind_of later_shape code_number
returns-in_default c = c.no_clause.ensures ∙ rw (kind-other c.args.above (λ a b. elim c.in_default.branch [ in_default-via-then-above-lt2 w ↦ omega arith | in_default-via-else-above-lt2+else-above-lt6 w ↦ omega arith ]))
