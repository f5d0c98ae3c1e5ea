-- MAIN CLAIM of specs/Kept.antt. Assumes nothing.
use Rattle.rewrite.specs.Kept.{RewriteKeeps}
use Rattle.rewrite.proofs.PlanLaws.{check-kept}
use Rattle.rewrite.proofs.GuardLaws.{guards-kept}
use Rattle.rewrite.proofs.PassLaws.{pass_kept}

pub rewrite-keeps : RewriteKeeps
rewrite-keeps p = record { checked = check-kept p; guards = guards-kept p; passes = pass_kept p }
