-- Laws that the proofs here and in upper crates cite.
pub mod StepLaws
pub mod CountLaws
pub mod SoundLaws
pub mod PlanLaws
pub mod MoveLaws
pub mod BlockLaws
pub mod PlacesLaws
pub mod CallLaws
pub mod Main
pub mod Cases
