-- Letters: p a plan, tab a table of classes, v a node, u a node above it, m a mark.
pub mod Record
