-- One law for each arm over the code, and in it the kind that is looked for or another. Assumes nothing.
use mathlib.Core.Path.{sym, ◌∙◌}
use native.Mathlib.Omega.{arith}
use borrow.Author.Tests.{eq-eqb, ne_eqb}
use Rattle.event.proofs.CodeLaws.{applies-start, applies-end, applies-offer, applies-choice, applies-answer}
use Rattle.event.proofs.applies_by.Goals as goal
use Rattle.event.proofs.applies_by.Goals.{in-2-1, in_default+else-code-lt1+else-code-lt5+else-code-lt7+then-code-lt9}

pub returns-in-7 : goal.returns-in-7
returns-in-7 c = sym (applies-answer _ _ _ (omega arith) (omega arith) ∙ eq-eqb _ 7 (omega arith))

pub returns-in_default-kind : goal.returns-in_default-kind
returns-in_default-kind c = sym (applies-answer _ _ _ (omega arith) (omega arith) ∙ ne_eqb _ 7 (omega arith))

pub returns-in_default : goal.returns-in_default
returns-in_default c = absurd (omega arith)

pub returns-in_default-2 : goal.returns-in_default-2
returns-in_default-2 c = absurd (omega arith)

pub returns-in-5 : goal.returns-in-5
returns-in-5 c = elim c.in-2-1.branch [
  | in-2-1 w ↦ sym (applies-offer _ _ _ (omega arith) ∙ eq-eqb _ 5 (omega arith))
  | in_default+else-code-lt1+else-code-lt5+else-code-lt7+then-code-lt9 w ↦ sym (applies-choice _ _ _ (omega arith) (omega arith) ∙ eq-eqb _ 5 (omega arith))
]

pub returns-in_default-above : goal.returns-in_default-above
returns-in_default-above c = elim c.in-2-1.branch [
  | in-2-1 w ↦ sym (applies-offer _ _ _ (omega arith) ∙ ne_eqb _ 5 (omega arith))
  | in_default+else-code-lt1+else-code-lt5+else-code-lt7+then-code-lt9 w ↦ sym (applies-choice _ _ _ (omega arith) (omega arith) ∙ ne_eqb _ 5 (omega arith))
]

pub returns-in-1 : goal.returns-in-1
returns-in-1 c = sym (applies-start _ _ _ (omega arith))

pub returns-in-1-2 : goal.returns-in-1-2
returns-in-1-2 c = sym (applies-end _ _ _ (omega arith) (omega arith))
