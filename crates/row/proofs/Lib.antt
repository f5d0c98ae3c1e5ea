-- Laws that the proofs here and in upper crates cite.
pub mod BytesHold
pub mod EvaluateLaws
pub mod BarLaws
pub mod RowLaws
