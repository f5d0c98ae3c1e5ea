-- The codes of each clause are the first of the three. Assumes nothing.
use Rattle.std.proofs.Common.{sym, ◌∙◌, arith}
use Rattle.row.proofs.EvaluateLaws.{each_free, each-by, past_two, three-codes}
use Rattle.row.proofs.evaluate.each_holds.Goals as goal

pub returns-in-0 : goal.returns-in-0
returns-in-0 c = sym (each_free _ _ _ c.in-0.is)

pub returns-in-1 : goal.returns-in-1
returns-in-1 c = let m = c.before.before.before in c.clauses_hold.ensures ∙ sym (each-by _ _ _ _ (λ z. omega (arith, m.in-1.is)) (rw m.in-1.is))

pub returns-in-2 : goal.returns-in-2
returns-in-2 c = let m = c.before.before.before in c.clauses_hold-in-2.ensures ∙ sym (each-by _ _ _ _ (λ z. omega (arith, m.in-2.is)) (rw m.in-2.is))

pub returns-in_default : goal.returns-in_default
returns-in_default c =
    c.clauses_hold-in_default.ensures ∙ sym (each-by _ _ _ _ (λ e. omega arith) (three-codes _ _ (past_two _ (λ e. omega arith) (λ e. omega arith) (λ e. omega arith))))
