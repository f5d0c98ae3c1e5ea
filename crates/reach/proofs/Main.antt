-- The theorems of this crate: the claims of specs/Claim.antt. Assumes nothing.
use Rattle.reach.specs.Claim.{ChangeWithinReach, ClassesReach, ImpactRight, ImpactPasses, ImpactNumbers, ImpactUnread, ImpactNone}
use Rattle.reach.proofs.ReachLaws
use Rattle.reach.proofs.ClassLaws
use Rattle.reach.proofs.ImpactLaws

pub change-within-reach : ChangeWithinReach
change-within-reach = ReachLaws.change-within-reach

pub classes-reach : ClassesReach
classes-reach = ClassLaws.classes-reach

pub impact-right : ImpactRight
impact-right = ImpactLaws.impact-right

pub impact-passes : ImpactPasses
impact-passes = ImpactLaws.impact-passes

pub impact-numbers : ImpactNumbers
impact-numbers = ImpactLaws.impact-numbers

pub impact-unread : ImpactUnread
impact-unread = ImpactLaws.impact-unread

pub impact-none : ImpactNone
impact-none = ImpactLaws.impact-none
