-- Laws that the proofs here and in upper crates cite.
pub mod PlaceLaws
