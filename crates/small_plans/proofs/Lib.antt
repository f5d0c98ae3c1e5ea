-- Laws that the proofs here and in upper crates cite.
pub mod NextLaws
pub mod RankLaws
pub mod AllLaws
pub mod LastLaws
pub mod CallLaws
pub mod Main
pub mod Cases
