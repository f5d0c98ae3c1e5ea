-- Letters: p a plan, lay a layout, st a state, q r sites, t a step, ts us lists of steps, e f events, es their list, v a node, a answers.
pub mod Simulation
pub mod Claim
