-- Laws that the proofs here cite.
pub mod TestLaws
pub mod CountLaws
pub mod Counting
pub mod Deepening
pub mod DepthsLaws
pub mod Main
