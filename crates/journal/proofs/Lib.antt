-- Laws of the journal, in the order in which they build on one another.
pub mod UndoLaws
pub mod ChangeLaws
pub mod ReplayLaws
pub mod SessionLaws
pub mod Main
pub mod Cases
