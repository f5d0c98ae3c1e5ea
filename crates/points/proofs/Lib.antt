-- Laws that the proofs here and in upper crates cite.
pub mod SlotLaws
pub mod KeyLaws
pub mod FitLaws
pub mod PutLaws
pub mod NamingLaws
pub mod DropLaws
pub mod FirstLaws
pub mod NameLaws
pub mod RightLaws
pub mod PlacedLaws
pub mod EndLaws
pub mod DroppedLaws
pub mod Main
pub mod Cases
