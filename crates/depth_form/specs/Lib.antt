-- Letters: p a plan, d a depth form, v w nodes or lines, e a depth, n how many, f g functions of a node.
pub mod Form
pub mod Calls
pub mod Claim
