-- Letters: p q plans, m the marked node, r how many times, v c nodes, s t trees side by side, n a number of nodes, out the lent bytes.
pub mod Repeat
pub mod Call
pub mod Claim
