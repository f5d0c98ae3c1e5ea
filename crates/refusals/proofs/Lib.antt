-- The laws behind the claim, in the order in which they build on one another.
pub mod ChoiceLaws
pub mod Leaves
pub mod PassNumbers
pub mod Passes
pub mod Simulated
pub mod Journal
pub mod Points
pub mod Desks
pub mod Main
