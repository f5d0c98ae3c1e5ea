-- Laws of one answer changed, in the order in which they build on one another.
pub mod AmongLaws
pub mod ReachLaws
pub mod ClassLaws
pub mod ImpactLaws
pub mod Main
pub mod Cases
