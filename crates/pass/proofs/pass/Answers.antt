-- The tests; what passes them is ready. Assumes nothing.
use Rattle.std.proofs.Common.{refl}
use Rattle.fault.proofs.Laws.{fault-some, handed_on}
use Rattle.pass.proofs.PassLaws.{into-refused, into-ready}
use Rattle.pass.proofs.pass.Goals as goal

pub returns-in_err-fit : goal.returns-in_err-fit
returns-in_err-fit c = rw (handed_on _ _ c.from_residual.ensures.1) (into-refused _ _ _ _ _ c.node_count-n.ensures c.in_err-fit.ensures (fault-some _))

pub settle_all-requires : goal.settle_all-requires
settle_all-requires c = into-ready _ _ _ _ _ c.node_count-n.ensures c.in_ok-fit.ensures refl
