-- Each arm is its row. Assumes nothing.
use mathlib.Core.Path.{sym}
use native.Mathlib.Omega.{arith}
use Rattle.guard.proofs.NamedLaws.{one-start, one-offer, one-commit, one-abort, one-other}
use Rattle.guard.proofs.family.names_one.Goals as goal

pub returns-in-1 : goal.returns-in-1
returns-in-1 c = one-start _ _ _ c.in-1.is c.in_turn.ensures

pub returns-in-2 : goal.returns-in-2
returns-in-2 c = one-offer _ _ _ c.in-2.is

pub returns-in-3 : goal.returns-in-3
returns-in-3 c = one-commit _ _ _ c.in-3.is

pub returns-in-4 : goal.returns-in-4
returns-in-4 c = one-abort _ _ _ c.in-4.is

pub returns-in_default : goal.returns-in_default
returns-in_default c = sym (one-other _ _ _ (λ a b. omega arith))
