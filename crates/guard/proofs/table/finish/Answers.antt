-- Each arm is its line of the table. Assumes nothing.
use mathlib.Core.Path.{◌∙◌}
use native.Mathlib.Omega.{arith}
use Rattle.plan.specs.Plan.{kind_of}
use Rattle.plan.proofs.KindLaws.{kind-other}
use Rattle.event.specs.Event.{code_number}
use Rattle.guard.specs.Shape.{finish_shape}
use Rattle.guard.proofs.Between.{of_two}
use Rattle.guard.proofs.table.finish.Goals as goal
use Rattle.guard.proofs.table.finish.Goals.{in_default-via-then-k-lt2, in_default-via-else-k-lt2+else-k-lt8}

pub returns-in-2 : goal.returns-in-2
unfolding kind_of finish_shape code_number
returns-in-2 c = c.one_event.ensures ∙ rw c.in-2.is

pub returns-in-3 : goal.returns-in-3
unfolding kind_of finish_shape code_number
returns-in-3 c = c.each_child.ensures ∙ rw c.in-3.is

pub returns-in-4 : goal.returns-in-4
unfolding kind_of finish_shape code_number
returns-in-4 c = c.each_child-in-4.ensures ∙ rw c.in-4.is

pub returns-in-5 : goal.returns-in-5
unfolding kind_of finish_shape code_number
returns-in-5 c = c.each_child-in-5.ensures ∙ rw c.in-5.is

pub returns-in-8 : goal.returns-in-8
unfolding kind_of finish_shape code_number
returns-in-8 c = c.each_child-in-8.ensures ∙ rw c.in-8.is

pub returns-in-6-to-7 : goal.returns-in-6-to-7
unfolding kind_of finish_shape code_number
returns-in-6-to-7 c = let a = c.args in of_two (λ k. finish_shape (kind_of k) a.v a.l) a.k 6 (omega arith) (omega arith) c.any_child.ensures c.any_child.ensures

pub returns-in_default : goal.returns-in_default
unfolding kind_of finish_shape code_number
returns-in_default c = c.one_event-in_default.ensures ∙ rw (kind-other c.args.k (λ a b. elim c.in_default.branch [ in_default-via-then-k-lt2 w ↦ omega arith | in_default-via-else-k-lt2+else-k-lt8 w ↦ omega arith ]))
