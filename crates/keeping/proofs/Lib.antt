-- Laws that the proofs here cite.
pub mod KeepLaws
pub mod UndoLaws
pub mod OwnLaws
