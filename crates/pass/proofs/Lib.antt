-- Laws that the proofs here cite.
pub mod TableLaws
pub mod StateLaws
pub mod GoesLaws
pub mod SettleLaws
pub mod WalkLaws
pub mod PassLaws
pub mod Cases
