-- A simulation takes a load as it is. Assumes nothing.
use Rattle.std.proofs.Common.{◌≡◌, ◌*◌, ◌/◌, ◌%◌, true, eqb, length, refl, arith, eq-eqb}
use Rattle.lists.proofs.Logic.{and-join}
use Rattle.plan.specs.Plan.{size}
use Rattle.plan.proofs.Main.{fit-exact}
use Rattle.event.specs.Site.{own}
use Rattle.job.specs.Simulation.{state_fits}
use Rattle.simulation.specs.Run.{run_number, run_of}
use Rattle.workload.specs.Load.{load}
use Rattle.workload.specs.Claim.{LoadRuns}
use Rattle.workload.proofs.LoadLaws.{load-long}

pub load-runs : LoadRuns
unfolding run_of run_number state_fits own
load-runs p ok c s st ns long each =
    let l = load-long (size p) c s in
    let whole : eqb (length (load (size p) c s) % 3) 0 ≡ true = eq-eqb (length (load (size p) c s) % 3) 0 (omega (arith, l)) in
    let one : eqb (length ns) (length (load (size p) c s) / 3) ≡ true = eq-eqb (length ns) (length (load (size p) c s) / 3) (omega (arith, l)) in
    rw ((fit-exact p _).none.1 (ok, and-join _ _ (and-join _ _ (eq-eqb (length st) (size p * size p) long) whole) one)) refl
