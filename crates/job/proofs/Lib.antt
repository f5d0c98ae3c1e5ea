-- Laws of jobs, in the order in which they build on one another.
pub mod StateLaws
pub mod View
pub mod StepLaws
pub mod Bridge
pub mod Marks
pub mod Claimed
pub mod Main
pub mod Cases
