-- Letters: p a plan, a b k l answers, v the node that a target names, w another, m the mark and e the end wanted, c a child, n how many, x an answer.
pub mod Way
pub mod Can
pub mod Claim
