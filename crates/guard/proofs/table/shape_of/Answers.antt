-- Each arm is its line of the table. Assumes nothing.
use mathlib.Core.Path.{◌∙◌}
use native.Mathlib.Omega.{arith}
use borrow.Author.Tests.{eq-eqb, ne_eqb}
use Rattle.plan.specs.Plan.{kind_number, is_kind, kind_of}
use Rattle.plan.specs.declared.kinds.Kind.TheVariants.{Xor as xor}
use Rattle.plan.proofs.KindLaws.{is-kind}
use Rattle.event.specs.Event.{code_number, code_of}
use Rattle.event.proofs.CodeLaws.{code-down}
use Rattle.guard.specs.Shape.{shape_of}
use Rattle.guard.proofs.Between.{of_two}
use Rattle.guard.proofs.table.shape_of.Goals as goal

pub returns-then-b-v : goal.returns-then-b-v
unfolding kind_number is_kind kind_of code_of code_number shape_of
returns-then-b-v c = c.first.ensures ∙ rw (c.in-1.is, eq-eqb _ _ c.if-b-v.true)

pub returns-else-b-v : goal.returns-else-b-v
unfolding kind_number is_kind kind_of code_of code_number shape_of
returns-else-b-v c = c.later.ensures ∙ rw (c.in-1.is, ne_eqb _ _ c.if-b-v.false)

pub returns-in-2 : goal.returns-in-2
unfolding kind_number is_kind kind_of code_of code_number shape_of
returns-in-2 c = c.finish.ensures ∙ rw c.in-2.is

pub returns-then-above-eq5 : goal.returns-then-above-eq5
unfolding kind_number is_kind kind_of code_of code_number shape_of
returns-then-above-eq5 c = c.one_event.ensures ∙ rw (c.in-3.is, c.if-above-eq5.true)

pub returns-else-above-eq5 : goal.returns-else-above-eq5
unfolding kind_number is_kind kind_of code_of code_number shape_of
returns-else-above-eq5 c = let a = c.args in c.finish-else-above-eq5.ensures ∙ rw (c.in-3.is, is-kind xor a.above (omega arith), ne_eqb a.above 5 c.if-above-eq5.false)

pub returns-in-4 : goal.returns-in-4
unfolding kind_number is_kind kind_of code_of code_number shape_of
returns-in-4 c = c.abort.ensures ∙ rw c.in-4.is

pub returns-in-7 : goal.returns-in-7
unfolding kind_number is_kind kind_of code_of code_number shape_of
returns-in-7 c = c.one_event-in-7.ensures ∙ rw c.in-7.is

pub returns-in-5-to-6 : goal.returns-in-5-to-6
unfolding kind_number is_kind kind_of code_of code_number shape_of
returns-in-5-to-6 c = let a = c.args in of_two (λ n. shape_of (code_of n) (kind_of a.k) (kind_of a.above) a.u a.v a.b) a.code 5 (omega arith) (omega arith) c.one_event-in-5-to-6.ensures c.one_event-in-5-to-6.ensures

pub returns-in_default : goal.returns-in_default
unfolding kind_number is_kind kind_of code_of code_number shape_of
returns-in_default c = rw (code-down c.args.code (λ a b. omega arith))

pub returns-in_default-2 : goal.returns-in_default-2
unfolding kind_number is_kind kind_of code_of code_number shape_of
returns-in_default-2 c = rw (code-down c.args.code (λ a b. omega arith))
