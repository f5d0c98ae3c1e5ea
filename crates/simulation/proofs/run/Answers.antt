-- The tests, then the frames. Assumes nothing.
use Rattle.std.proofs.Common.{sym}
use Rattle.fault.proofs.Laws.{fault-some, handed_on}
use Rattle.simulation.proofs.RunLaws.{run-refused, run-done}
use Rattle.simulation.proofs.RecordLaws.{run-told, run-laid, run_long}
use Rattle.simulation.proofs.run.Goals as goal

pub returns-in_err-fit : goal.returns-in_err-fit
returns-in_err-fit c = rw (handed_on _ _ c.from_residual.ensures.1)
    (run-refused _ _ _ _ _ (run-told _ _ _ _ _ c.node_count-n.ensures _ c.run_fits-fits.ensures _ c.in_err-fit.ensures) (fault-some _))

pub run_all-requires : goal.run_all-requires
run_all-requires c =
    let z = sym (run-told _ _ _ _ _ c.node_count-n.ensures _ c.run_fits-fits.ensures _ c.in_ok-fit.ensures) in
    record { laid = run-laid _ _ _ _ z; numbers_len = run_long _ _ _ _ z }

pub returns : goal.returns
returns c =
    let z = sym (run-told _ _ _ _ _ c.node_count-n.ensures _ c.run_fits-fits.ensures _ c.in_ok-fit.ensures) in
    run-done _ _ _ _ z _ _ c.run_all.ensures.state_after c.run_all.ensures.numbers_after
