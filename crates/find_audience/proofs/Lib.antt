-- Laws of the search for whom to tell.
pub mod NextLaws
pub mod WhomLaws
pub mod CallLaws
