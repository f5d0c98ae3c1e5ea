-- Laws that the proofs here and in upper crates cite.
pub mod TableLaws
pub mod StepLaws
pub mod MarkLaws
