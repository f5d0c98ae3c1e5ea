-- Letters: p a plan, u v x nodes.
pub mod Whom
