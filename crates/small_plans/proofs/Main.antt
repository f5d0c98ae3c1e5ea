-- The theorems of this crate: the claims of specs/Claim.antt. Assumes nothing.
use Rattle.small_plans.specs.Claim.{NextRight, SingleFirst, AllComeUp, NoneTwice, LastOnly, NextCall, NextNumbers}
use Rattle.small_plans.proofs.NextLaws as next
use Rattle.small_plans.proofs.AllLaws as all
use Rattle.small_plans.proofs.LastLaws as last
use Rattle.small_plans.proofs.CallLaws as call

pub next-right : NextRight
next-right = next.next-right

pub single-first : SingleFirst
single-first = all.single-first

pub all-come-up : AllComeUp
all-come-up = all.all-come-up

pub none-twice : NoneTwice
none-twice = all.none-twice

pub last-only : LastOnly
last-only = last.last-only

pub next-call : NextCall
next-call = call.next-call

pub next-numbers : NextNumbers
next-numbers = call.next-numbers
