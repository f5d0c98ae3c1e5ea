-- A local array takes the marks and is copied out where the root has no fault. Assumes nothing.
use Rattle.fault.proofs.Laws.{handed_on}
use Rattle.pass.proofs.TableLaws.{end-few}
use Rattle.pass.proofs.PassLaws.{into-fault, into-marks}
use Rattle.pass.proofs.settle_all.Goals as goal

pub returns-in_err-end : goal.returns-in_err-end
returns-in_err-end c = rw (handed_on _ _ c.from_residual.ensures.1) (into-fault
    (record { ready = c.requires; size_is = c.node_count-n.ensures; settled = c.in_err-end.ensures.settles; long = c.settle_root.auto.marks })
    c.in_err-end.ensures.own)

pub returns : goal.returns
returns c = rw c.from.ensures (into-marks
    (record { ready = c.requires; size_is = c.node_count-n.ensures; settled = c.in_ok-end.ensures.settles; long = c.settle_root.auto.marks })
    (end-few _) _ c.copy_from_slice.ensures.after)
