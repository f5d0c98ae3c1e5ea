-- Laws that the proofs here and in upper crates cite.
pub mod AboveLaws
pub mod LaidLaws
pub mod OrderLaws
pub mod TreeLaws
pub mod WrittenLaws
pub mod SoundLaws
pub mod RenumberLaws
pub mod CallLaws
pub mod Cases
pub mod Main
