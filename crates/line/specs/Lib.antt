-- Letters: p a plan, lay a layout, st new states, q r sites, row a site's bytes, x y bytes, e f events, es fs lists of them, ts steps.
pub mod Change
pub mod Claim
