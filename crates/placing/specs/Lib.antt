-- Letters: p a plan, first and next its links, v a node, u its parent's new number, n its own, b the trees below it, out the lent bytes,
-- r the number behind its tree.
pub mod Place
