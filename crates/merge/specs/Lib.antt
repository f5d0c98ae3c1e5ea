-- Letters: p a plan, row other rows, x y b bytes, v a node, n a number.
pub mod Output
pub mod Events
pub mod Merge
pub mod Bytes
pub mod Claim
