-- Laws that the proofs here and in upper crates cite.
pub mod CodeLaws
pub mod BitLaws
pub mod ValidLaws
pub mod HostLaws
