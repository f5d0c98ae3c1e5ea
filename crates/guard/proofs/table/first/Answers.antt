-- Each arm is its line of the table. Assumes nothing.
use mathlib.Core.Path.{◌∙◌}
use native.Mathlib.Omega.{arith}
use Rattle.plan.specs.Plan.{kind_of}
use Rattle.plan.proofs.KindLaws.{kind-other}
use Rattle.event.specs.Event.{code_number}
use Rattle.guard.specs.Shape.{first_shape}
use Rattle.guard.proofs.Between.{of-five}
use Rattle.guard.proofs.table.first.Goals as goal
use Rattle.guard.proofs.table.first.Goals.{in_default-via-then-above-lt2, in_default-via-else-above-lt2+else-above-lt7}

pub returns-in-7 : goal.returns-in-7
unfolding kind_of first_shape code_number
returns-in-7 c = c.one_event.ensures ∙ rw c.in-7.is

pub returns-in-8 : goal.returns-in-8
unfolding kind_of first_shape code_number
returns-in-8 c = c.one_event-in-8.ensures ∙ rw c.in-8.is

pub returns-in-2-to-6 : goal.returns-in-2-to-6
unfolding kind_of first_shape code_number
returns-in-2-to-6 c = of-five (λ k. first_shape (kind_of k) c.args.u) c.args.above 2 (omega arith) (omega arith) c.one_event-in-2-to-6.ensures c.one_event-in-2-to-6.ensures c.one_event-in-2-to-6.ensures c.one_event-in-2-to-6.ensures c.one_event-in-2-to-6.ensures

pub returns-in_default : goal.returns-in_default
unfolding kind_of first_shape code_number
returns-in_default c = c.no_clause.ensures ∙ rw (kind-other c.args.above (λ a b. elim c.in_default.branch [ in_default-via-then-above-lt2 w ↦ omega arith | in_default-via-else-above-lt2+else-above-lt7 w ↦ omega arith ]))
