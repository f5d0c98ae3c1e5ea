-- Laws that the proofs here cite.
pub mod HopeLaws
pub mod GatherLaws
pub mod TableLaws
pub mod FrontLaws
pub mod ChooseLaws
pub mod IntoLaws
