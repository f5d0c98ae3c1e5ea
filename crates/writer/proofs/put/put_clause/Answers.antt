-- Up to seven stores, two behind those before them. Assumes nothing.
use Rattle.std.proofs.Common.{arith, length-set}
use Rattle.guard.proofs.PutLaws.{clause-one, clause-two, clause-three}
use Rattle.writer.proofs.put.put_clause.Goals as goal

pub bounds-buf-at-2 : goal.bounds-buf-at-2
bounds-buf-at-2 c = simp length-set (omega arith)

pub bounds-buf-at-3 : goal.bounds-buf-at-3
bounds-buf-at-3 c = simp length-set (omega arith)

pub returns-then-n-eq1 : goal.returns-then-n-eq1
returns-then-n-eq1 c = clause-one _ _ _ _ c.if-n-eq1.true

pub bounds-buf-at-4 : goal.bounds-buf-at-4
bounds-buf-at-4 c = simp length-set (omega arith)

pub bounds-buf-at-5 : goal.bounds-buf-at-5
bounds-buf-at-5 c = simp length-set (omega arith)

pub returns-then-n-eq2 : goal.returns-then-n-eq2
returns-then-n-eq2 c = clause-two _ _ _ _ c.if-n-eq2.true

pub bounds-buf-at-6 : goal.bounds-buf-at-6
bounds-buf-at-6 c = simp length-set (omega arith)

pub bounds-buf-at-7 : goal.bounds-buf-at-7
bounds-buf-at-7 c = simp length-set (omega arith)

pub returns : goal.returns
returns c = clause-three _ _ _ _ (omega arith)
