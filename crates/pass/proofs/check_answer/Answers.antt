-- By the kind and the answer. Assumes nothing.
use Rattle.std.proofs.Common.{arith}
use Rattle.pass.proofs.TableLaws.{answer-right, answer-wrong, answer-free}
use Rattle.pass.proofs.check_answer.Goals as goal

pub returns-in-1-clause-number : goal.returns-in-1-clause-number
returns-in-1-clause-number c = answer-right _ _ (omega arith) (omega arith)

pub returns-in_default-answer-clause-number : goal.returns-in_default-answer-clause-number
returns-in_default-answer-clause-number c = answer-wrong _ _ c.in-Task.is (λ e. omega arith) (λ e. omega arith)

pub returns-in_default-answer-2-clause-number : goal.returns-in_default-answer-2-clause-number
returns-in_default-answer-2-clause-number c = answer-wrong _ _ c.in-Task.is (λ e. omega arith) (λ e. omega arith)

pub returns-in_default : goal.returns-in_default
returns-in_default c = record { number = answer-free _ _ c.in_default.not-Task c.in_default.not-Conditional; own = tt }
