-- The theorems of this crate: the claims of specs/Claim.antt. Assumes nothing.
use Rattle.workload.specs.Claim.{LoadGoesOn, LoadFrames, LoadRuns, LoadCall}
use Rattle.workload.proofs.LoadLaws as loads
use Rattle.workload.proofs.RunLaws as runs
use Rattle.workload.proofs.CallLaws as call

pub load-goes-on : LoadGoesOn
load-goes-on = loads.load-goes-on

pub load-frames : LoadFrames
load-frames = loads.load-frames

pub load-runs : LoadRuns
load-runs = runs.load-runs

pub load-call : LoadCall
load-call = call.load-call
