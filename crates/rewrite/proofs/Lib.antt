-- Laws and theorems that other crates may cite.
pub mod RewriteLaws
pub mod PlanLaws
pub mod GuardLaws
pub mod PassLaws
pub mod Main
pub mod Cases
