-- Letters: p a plan, first and next its links, c a node, u its parent's new number, n its own, k how many times, out the lent bytes, r the
-- number behind what is written.
pub mod Copies
