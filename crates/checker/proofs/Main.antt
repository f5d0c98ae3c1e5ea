-- The theorem of this crate: the claim of specs/Depths.antt. Assumes nothing.
use Rattle.checker.specs.Depths.{SameNumber}
use Rattle.checker.proofs.DepthsLaws.{number_same, number_fits}

pub same_number : SameNumber
same_number p d = (number_same p d, number_fits p d)
