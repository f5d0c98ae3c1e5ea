-- Letters: p a plan's bytes, d the lent bytes, n a number.
pub mod Depths
