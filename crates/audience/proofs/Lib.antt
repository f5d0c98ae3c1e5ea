-- Laws of whom to tell, in the order in which they build on one another.
pub mod ListLaws
pub mod EventLaws
pub mod Shapes
pub mod NameLaws
pub mod Next
pub mod Hears
pub mod Named
pub mod Sorted
pub mod Closed
pub mod Total
pub mod Spent
pub mod Main
pub mod Cases
