-- Each arm is its line of the table. Assumes nothing.
use mathlib.Core.Path.{◌∙◌}
use mathlib.Core.Logic.{⊎_elim}
use native.Mathlib.Omega.{arith}
use Rattle.plan.specs.Plan.{kind_of}
use Rattle.plan.proofs.KindLaws.{kind-other}
use Rattle.event.specs.Event.{code_number}
use Rattle.guard.specs.Shape.{abort_shape}
use Rattle.guard.proofs.Between.{of_two}
use Rattle.guard.proofs.table.abort.Goals as goal
use Rattle.guard.proofs.table.abort.Goals.{in_default-via-then-k-lt2, in_default-via-else-k-lt2+else-k-lt6}

pub returns-in-2 : goal.returns-in-2
unfolding kind_of abort_shape code_number
returns-in-2 c = ⊎_elim (λ e. c.any_child.ensures ∙ rw e) (λ e. c.any_child.ensures ∙ rw e) c.in-2.is

pub returns-in-3 : goal.returns-in-3
unfolding kind_of abort_shape code_number
returns-in-3 c = c.any_child-in-3.ensures ∙ rw c.in-3.is

pub returns-in-6 : goal.returns-in-6
unfolding kind_of abort_shape code_number
returns-in-6 c = c.one_event.ensures ∙ rw c.in-6.is

pub returns-in-8 : goal.returns-in-8
unfolding kind_of abort_shape code_number
returns-in-8 c = c.each_child.ensures ∙ rw c.in-8.is

pub returns-in-4-to-5 : goal.returns-in-4-to-5
unfolding kind_of abort_shape code_number
returns-in-4-to-5 c = let a = c.args in
    of_two (λ k. abort_shape (kind_of k) a.v a.l) a.k 4 (grind arith) (grind arith) c.each_child-in-4-to-5.ensures c.each_child-in-4-to-5.ensures

pub returns-in_default : goal.returns-in_default
unfolding kind_of abort_shape code_number
returns-in_default c = let k = c.args.k in
    c.one_event-in_default.ensures ∙ rw (kind-other k (λ a b. elim c.in_default.branch [ in_default-via-then-k-lt2 w ↦ grind arith | in_default-via-else-k-lt2+else-k-lt6 w ↦ grind arith ]))
