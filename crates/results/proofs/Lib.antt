-- Laws that the proofs here and those of the C functions cite.
pub mod ResultLaws
