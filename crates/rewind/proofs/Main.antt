-- The theorems of going back (specs/Session.antt). Assumes nothing.
use Rattle.event.specs.Site.{own}
use Rattle.job.specs.Claim.{Claim}
use Rattle.job.proofs.Main.{demand3}
use Rattle.rewind.specs.Session.{Returning, OwnReturning}
use Rattle.rewind.proofs.PointLaws.{undo-points, back-points, as-undo}
use Rattle.rewind.proofs.SessionLaws.{all-well, all-return}

pub returning : Returning
returning p ok lay housed row =
    let claim : Claim p lay = demand3 p ok lay housed in
    record {
      well = all-well p lay row claim;
      returns = λ es names long ms. all-return p lay row claim es names long ms ok;
      as-undo = λ st es k names places. as-undo p lay row st es k names places;
      undo-points = undo-points p lay row;
      back-points = λ name st es k names places. back-points p lay row st es k names places name;
    }

pub own-returning : OwnReturning
unfolding own
own-returning p ok = returning p ok (own p) (λ v l. l) (λ q. q)
