-- Letters: p a plan, a answers, i how many of them are fixed, t a target, v w nodes, c a child, k a kind's byte, h what children leave open, b a byte.
pub mod Marks
pub mod Search
