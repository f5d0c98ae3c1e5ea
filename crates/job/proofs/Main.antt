-- The theorems of this crate: demand 3 of specs/Claim.antt, for every layout that gives every node a row, and for each node its own. Assumes nothing.
use Rattle.event.specs.Site.{own}
use Rattle.job.specs.Claim.{Demand3, OwnDemand3}
use Rattle.job.proofs.Claimed.{claim}

pub demand3 : Demand3
demand3 p ok lay housed = claim p ok lay housed

pub own-demand3 : OwnDemand3
unfolding own
own-demand3 p ok = demand3 p ok (own p) (λ v l. l)
