-- Laws of hosts, in the order in which they build on one another.
pub mod RowLaws
pub mod ActionLaws
pub mod Covers
pub mod Claimed
pub mod Main
pub mod Cases
