-- Laws that the proofs here and in upper crates cite.
pub mod PutLaws
pub mod EncodeLaws
pub mod Short
pub mod Between
pub mod FamilyLaws
pub mod NamedLaws
pub mod ShapeLaws
pub mod RuleLaws
pub mod Cases
