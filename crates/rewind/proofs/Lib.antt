-- Laws of going back, in the order in which they build on one another.
pub mod BackLaws
pub mod CallLaws
pub mod OwnLaws
pub mod PointLaws
pub mod SessionLaws
pub mod Main
pub mod Cases
