-- The theorem of this crate: the claim of specs/Hosts.antt. Assumes nothing.
use Rattle.hosts.specs.Hosts.{HostsCovered}
use Rattle.hosts.proofs.Claimed.{claim}

pub hosts-covered : HostsCovered
hosts-covered = claim
