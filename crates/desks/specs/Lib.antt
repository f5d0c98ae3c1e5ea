-- Letters: p a plan with desks, d a desk, v a node, q a row, st a state, es a journal's entries, k their count, s what a step left.
pub mod Desk
pub mod Calls
pub mod Claim
