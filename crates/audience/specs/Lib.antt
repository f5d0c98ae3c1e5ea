-- Letters: p a plan, lay a layout, q r sites, e f events, v w nodes, u a parent, cs its children, out the lent bytes.
pub mod Audience
pub mod Hearers
pub mod Messages
pub mod Claim
pub mod Call
