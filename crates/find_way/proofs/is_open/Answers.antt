-- The root's marks, and of them the one that is wanted. Assumes nothing.
use Rattle.std.proofs.Common.{ap, eq-eqb, ne_eqb}
use Rattle.find_way.specs.Search.{opens}
use Rattle.find_way.proofs.is_open.Goals as goal

pub returns-then-end-eq3 : goal.returns-then-end-eq3
unfolding opens
returns-then-end-eq3 c = rw (eq-eqb _ 3 c.if-end-eq3.true) (ap (λ m. m.done) c.unpack-m.ensures)

pub returns-else-end-eq3 : goal.returns-else-end-eq3
unfolding opens
returns-else-end-eq3 c = rw (ne_eqb _ 3 c.if-end-eq3.false) (ap (λ m. m.failed) c.unpack-m.ensures)
