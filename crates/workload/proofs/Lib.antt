-- Laws that the proofs here cite.
pub mod ProductLaws
pub mod LoadLaws
pub mod StepLaws
pub mod CallLaws
pub mod RunLaws
pub mod Main
pub mod Cases
