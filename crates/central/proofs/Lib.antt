-- Laws of the rule over bytes, the theorems, and worked cases.
pub mod Tests
pub mod MarkLaws
pub mod NoteLaws
pub mod ScanLaws
pub mod StartLaws
pub mod EndLaws
pub mod AllowedLaws
pub mod AdvanceLaws
pub mod RuleLaws
pub mod StateLaws
pub mod ReplayLaws
pub mod Main
pub mod Cases
