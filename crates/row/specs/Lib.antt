-- Letters: p a plan, e an event, v a node, row a site's bytes, s a guard's shape, cs the nodes that it names, ks codes.
pub mod Row
pub mod Evaluate
