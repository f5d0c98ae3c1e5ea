-- Laws that the proofs here cite.
pub mod ChildLaws
pub mod CopyLaws
pub mod MarkLaws
pub mod CallLaws
