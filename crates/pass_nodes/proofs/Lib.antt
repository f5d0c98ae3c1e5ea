-- Laws of the pass node by node, in the order in which they build on one another.
pub mod EndLaws
pub mod MarkLaws
pub mod NodeLaws
pub mod ReachedLaws
pub mod LocalLaws
pub mod UnreadLaws
pub mod Main
pub mod Cases
