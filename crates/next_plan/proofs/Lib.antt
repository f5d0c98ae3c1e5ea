-- Laws that the proofs here cite.
pub mod AdvanceLaws
pub mod CandidateLaws
pub mod FollowLaws
pub mod DeadLaws
pub mod LowerLaws
pub mod StepLaws
pub mod SearchLaws
pub mod CallLaws
pub mod Cases
