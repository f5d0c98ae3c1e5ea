-- Letters: p a plan, s a central state, e f events, es fs their lists, v u w nodes, c a child, a answers.
pub mod Agree
pub mod Claims
