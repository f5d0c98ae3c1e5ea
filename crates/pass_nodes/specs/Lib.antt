-- Letters: p a plan, a b answers, k a kind, x an answer, e ends of nodes, t a tally, o an outcome, v a node, c its child, cs children, u w nodes.
pub mod Nodes
pub mod Claim
