-- Letters: p q r plans, l m lists of bytes, n a number of nodes, out the lent bytes.
pub mod Order
pub mod Call
pub mod Claim
