-- Laws that the proofs here and in upper crates cite.
pub mod OwnLaws
pub mod RunLaws
pub mod RecordLaws
