-- Each arm is its row. Assumes nothing.
use native.Mathlib.Omega.{arith}
use Rattle.guard.proofs.NamedLaws.{names-start, names-offer, names-commit, names-abort, names-answer, names-pick, names-down}
use Rattle.guard.proofs.family.names_family.Goals as goal

pub returns-in-1 : goal.returns-in-1
returns-in-1 c = names-start _ _ _ c.in-1.is c.in_turn.ensures

pub returns-in-2 : goal.returns-in-2
returns-in-2 c = names-offer _ _ _ c.in-2.is c.is_block.ensures

pub returns-in-3 : goal.returns-in-3
returns-in-3 c = names-commit _ _ _ c.in-3.is c.is_block-in-3.ensures

pub returns-in-4 : goal.returns-in-4
returns-in-4 c = names-abort _ _ _ c.in-4.is c.is_block-in-4.ensures

pub returns-in-7 : goal.returns-in-7
returns-in-7 c = names-pick _ _ _ c.in-7.is

pub returns-in-5-to-6 : goal.returns-in-5-to-6
returns-in-5-to-6 c = names-answer _ _ _ (omega arith) (omega arith)

pub returns-in_default : goal.returns-in_default
returns-in_default c = names-down _ _ _ (λ a b. omega arith)

pub returns-in_default-2 : goal.returns-in_default-2
returns-in_default-2 c = names-down _ _ _ (λ a b. omega arith)
