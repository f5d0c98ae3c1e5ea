-- Letters: p a plan, a b answers, m n marks, r room for marks, t a task, x its new answer, u v w nodes, s a sibling, tab a table of classes.
pub mod Reach
pub mod Impact
pub mod Claim
