-- Laws that upper crates cite, and that the claims hold.
pub mod AlikeLaws
pub mod RankLaws
pub mod DeskLaws
pub mod CallLaws
pub mod OwnLaws
pub mod PlainLaws
pub mod OneLaws
pub mod FormLaws
pub mod Main
pub mod Cases
