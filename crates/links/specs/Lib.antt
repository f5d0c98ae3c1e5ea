-- Letters: p a plan, v a node, c its child.
pub mod Links
