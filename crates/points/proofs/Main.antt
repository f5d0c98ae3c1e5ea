-- The theorem of points (specs/Claim.antt). Assumes nothing.
use native.Mathlib.Omega.{arith}
use Rattle.points.specs.Claim.{PointsClaim}
use Rattle.points.proofs.RightLaws.{fit-right, right-fit, fresh-right, freeing_keeps}
use Rattle.points.proofs.EndLaws.{naming-there, naming-others, naming-full, naming-passes, naming-keeps}
use Rattle.points.proofs.DroppedLaws.{dropped-point, dropped_keeps}

pub points-claim : PointsClaim
points-claim = record {
  exact = λ names places k. (fit-right names places k, right-fit names places k);
  there = naming-there;
  others = naming-others;
  full = naming-full;
  passes = naming-passes;
  drops = λ names places k h n name. dropped-point n names places k (fit-right names places k h) name;
  fresh = fresh-right;
  naming-keeps = naming-keeps;
  dropping_keeps = λ names places k n r. dropped_keeps n names places k r;
  freeing_keeps = freeing_keeps;
  growing-keeps = λ names places k n l r. record {
    names-long = r.names-long;
    places-long = r.places-long;
    within = λ i m u. omega (arith, r.within i m u);
    apart = r.apart;
  };
}
