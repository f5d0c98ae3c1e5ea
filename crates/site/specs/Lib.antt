-- Letters: p a plan, e an event, v a node, row a site's bytes.
pub mod Verdict
pub mod Step
pub mod Only
