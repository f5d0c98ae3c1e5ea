-- The theorems of this crate: the claims of specs/Claim.antt. Assumes nothing.
use Rattle.plan.proofs.AcceptedLaws.{accepted-ordered}
use Rattle.template.specs.Claim.{RepeatSteps, RepeatCount, RepeatChecked, RepeatRight, RepeatOnce, RepeatPlaces, RepeatCall, RepeatNumbers}
use Rattle.template.proofs.StepLaws as steps
use Rattle.template.proofs.CountLaws as counts
use Rattle.template.proofs.PlanLaws as plans
use Rattle.template.proofs.PlacesLaws as places
use Rattle.template.proofs.CallLaws as calls

pub repeat_steps : RepeatSteps
repeat_steps p ok m r = record { marked = steps.step-marked p (accepted-ordered p ok) m r; other = steps.step_other p (accepted-ordered p ok) m r }

pub repeat-count : RepeatCount
repeat-count = counts.repeat-count

pub repeat-checked : RepeatChecked
repeat-checked p m r h some most = plans.repeat-checked h r some most

pub repeat-right : RepeatRight
repeat-right p m r h some most few q = (λ e. rw e (plans.repeat-right h r some most few), plans.repeat-only p m r q)

pub repeat-once : RepeatOnce
repeat-once p ok m = steps.repeat-once p (accepted-ordered p ok) m

pub repeat-places : RepeatPlaces
repeat-places = places.repeat-places

pub repeat-call : RepeatCall
repeat-call = calls.repeat-call

pub repeat-numbers : RepeatNumbers
repeat-numbers = calls.repeat-numbers
