-- The three numbers are bytes. Assumes nothing.
use native.Mathlib.Omega.{arith}
use Rattle.keeping.proofs.entry_of.Goals as goal

pub overflow_cast-k : goal.overflow_cast-k
overflow_cast-k c = omega (arith, c.requires.0)

pub overflow_cast-v : goal.overflow_cast-v
overflow_cast-v c = omega (arith, c.requires.1)

pub overflow_cast-q : goal.overflow_cast-q
overflow_cast-q c = omega (arith, c.requires.2)

pub returns-then-was : goal.returns-then-was
returns-then-was c = rw c.if-was.true

pub returns-else-was : goal.returns-else-was
returns-else-was c = rw c.if-was.false
