-- Laws that the proofs here cite.
pub mod TableLaws
pub mod AboveLaws
pub mod RecordLaws
pub mod Cases
