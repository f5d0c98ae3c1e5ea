-- Laws that the proofs here and in upper crates cite.
pub mod Count
pub mod OutputLaws
pub mod ByteLaws
pub mod FitLaws
pub mod CountLaws
pub mod JoinLaws
pub mod MergeLaws
pub mod Main
pub mod Cases
