-- By the kind. Assumes nothing.
use Rattle.std.proofs.Common.{◌≡◌, refl}
use Rattle.plan.specs.Plan.{kind_number}
use Rattle.plan.specs.declared.kinds.Kind.{Kind}
use Rattle.plan.specs.declared.kinds.Kind.TheVariants.{Task, Serial, And, Or, Xor, Contingency, Conditional, Waiting}
use Rattle.next_plan.specs.Search.{children_needed}
use Rattle.next_plan.proofs.children_needed.Goals as goal

pub returns-in-Task : goal.returns-in-Task
unfolding children_needed kind_number
returns-in-Task c = rw c.in-Task.is refl

pub returns-in-Conditional : goal.returns-in-Conditional
unfolding children_needed kind_number
returns-in-Conditional c = rw c.in-Conditional.is refl

-- the other six
other : (k : Kind) → (k ≡ Task → ⊥) → (k ≡ Conditional → ⊥) → 1 ≡ children_needed (kind_number k)
unfolding children_needed kind_number
other Task t c = absurd (t refl)
other Serial t c = refl
other And t c = refl
other Or t c = refl
other Xor t c = refl
other Contingency t c = refl
other Conditional t c = absurd (c refl)
other Waiting t c = refl

pub returns-in_default : goal.returns-in_default
returns-in_default c = other _ c.in_default.not-Task c.in_default.not-Conditional
