-- Letters: s a seed or what the generator has moved to, n a number of nodes, c d counts of steps, k a number of moves, i a step, p a plan, out the lent bytes.
pub mod Load
pub mod Call
pub mod Claim
