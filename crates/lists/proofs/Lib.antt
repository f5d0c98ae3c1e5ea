-- Laws that the proofs of other crates cite.
pub mod Logic
pub mod Members
pub mod Keep
pub mod Any
pub mod Below
pub mod Table
pub mod Lent
pub mod Filling
pub mod Between
pub mod Points
pub mod Search
pub mod PutLaws
pub mod Each
pub mod Parts
pub mod SmallestLaws
pub mod OrderLaws
