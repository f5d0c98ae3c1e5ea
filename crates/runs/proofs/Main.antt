-- The theorems of this crate: the claims of specs/Claims.antt. Assumes nothing.
use Rattle.central.specs.Central.{fresh, reaches}
use Rattle.runs.specs.Claims.{GuardsFollowRule, FiveEvents, RunsEnd, StuckEnded, StuckIsPass, AnswersAgree}
use Rattle.runs.proofs.Said.{happened}
use Rattle.runs.proofs.Good.{good-run}
use Rattle.runs.proofs.Fits.{guards-follow}
use Rattle.runs.proofs.Count.{count}
use Rattle.runs.proofs.RunLaws.{ends}
use Rattle.runs.proofs.Stuck.{root-started}
use Rattle.runs.proofs.Ended.{all-ended}
use Rattle.runs.proofs.PassRight.{pass-right}
use Rattle.runs.proofs.Answers.{some-agree}

pub guards-follow-rule : GuardsFollowRule
guards-follow-rule = guards-follow

pub five-events : FiveEvents
five-events = count

pub runs-end : RunsEnd
runs-end = ends

pub stuck-ended : StuckEnded
stuck-ended p ok es h stuck = (root-started p ok (reaches fresh es) stuck, all-ended p ok (reaches fresh es) (good-run p es h) stuck)

pub stuck-is-pass : StuckIsPass
stuck-is-pass p ok es h stuck a bytes agree = pass-right p ok (reaches fresh es) (good-run p es h) stuck a (rw (happened p es h) at agree)

pub answers_agree : AnswersAgree
answers_agree = some-agree
