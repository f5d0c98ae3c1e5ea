-- The four kinds, in one test. Assumes nothing.
use Rattle.std.proofs.Common.{◌≡◌, false, refl}
use Rattle.lists.proofs.Logic.{cases}
use Rattle.plan.specs.Plan.{kind_number}
use Rattle.plan.specs.declared.kinds.Kind.{Kind}
use Rattle.plan.specs.declared.kinds.Kind.TheVariants.{Task, Serial, And, Or, Xor, Contingency, Conditional, Waiting}
use Rattle.template.specs.Repeat.{can_repeat}
use Rattle.repeat.proofs.can_repeat.Goals as goal

pub returns-in-And : goal.returns-in-And
unfolding can_repeat kind_number
returns-in-And c = cases c.in-And.is (λ e. rw e refl) (λ h. cases h (λ e. rw e refl) (λ h. cases h (λ e. rw e refl) (λ e. rw e refl)))

-- the other four
other : (k : Kind) → (k ≡ And → ⊥) → (k ≡ Or → ⊥) → (k ≡ Xor → ⊥) → (k ≡ Waiting → ⊥) → false ≡ can_repeat (kind_number k)
unfolding can_repeat kind_number
other Task a o x w = refl
other Serial a o x w = refl
other And a o x w = absurd (a refl)
other Or a o x w = absurd (o refl)
other Xor a o x w = absurd (x refl)
other Contingency a o x w = refl
other Conditional a o x w = refl
other Waiting a o x w = absurd (w refl)

pub returns-in_default : goal.returns-in_default
returns-in_default c = let d = c.in_default in other _ d.not-And d.not-Or d.not-Xor d.not-Waiting
