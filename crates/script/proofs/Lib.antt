-- Laws that the proofs here cite.
pub mod LineLaws
pub mod SimulationLaws
pub mod ScriptLaws
pub mod ReadLaws
pub mod Main
