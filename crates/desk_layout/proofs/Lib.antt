-- Laws of what is prepared, in the order in which they build on one another.
pub mod SplitLaws
pub mod NumberLaws
pub mod PrepareLaws
pub mod LayoutLaws
