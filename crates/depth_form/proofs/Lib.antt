-- Laws that the proofs here and in upper crates cite.
pub mod PairsLaws
pub mod LastLaws
pub mod ThereLaws
pub mod BackLaws
pub mod Cases
pub mod Main
