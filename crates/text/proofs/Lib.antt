-- Laws that the proofs of other crates cite.
pub mod HexLaws
pub mod TextLaws
pub mod CallLaws
pub mod DecodeLaws
pub mod PrintLaws
pub mod Written
pub mod ReadBack
pub mod Main
pub mod Cases
