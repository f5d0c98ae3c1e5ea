-- Laws that the proofs here cite.
pub mod Choices
pub mod ChoiceLaws
pub mod AlongLaws
pub mod CanLaws
pub mod Possible
pub mod Front
pub mod Greedy
pub mod OrderLaws
pub mod EveryLaws
pub mod CallLaws
pub mod Main
pub mod Cases
