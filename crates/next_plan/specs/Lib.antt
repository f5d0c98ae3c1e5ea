-- Letters: p q r plans and candidates, l lists of bytes, b a byte, i a place in a list, k how many bytes in front, v a node, n a number.
pub mod Candidates
pub mod Search
