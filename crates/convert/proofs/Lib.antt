-- Laws that the proofs here cite.
pub mod ClimbLaws
pub mod LineLaws
pub mod DepthsLaws
pub mod FormLaws
pub mod CallLaws
