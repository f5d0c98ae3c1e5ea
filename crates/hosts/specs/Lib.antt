-- Letters: p a plan, lay a layout, q r sites, x an action, xs a list of actions, ts a list of steps, e an event, es fs lists of events, v a node,
-- a answers.
pub mod Hosts
