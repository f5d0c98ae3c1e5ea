-- Letters: p a plan made before, i a place in it, out the lent bytes, n a number, e an event, a the answers of a pass, k a kind.
pub mod Rewrite
pub mod Kept
