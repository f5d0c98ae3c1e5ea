-- Laws of rows that change, in the order in which they build on one another.
pub mod RowLaws
pub mod Decide
pub mod Reach
pub mod Relays
pub mod Quiets
pub mod Sparing
pub mod Messages
pub mod Main
pub mod Cases
