-- Letters: p a plan, st a state, q a site, b a byte, bs frames of steps, ns their numbers, tab a table of classes, m c the lent marks and classes.
pub mod Run
