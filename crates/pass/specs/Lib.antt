-- Letters: p a plan, a an answer or the answers, v a node, c a child, k a kind, t a tally, w a walk, m and n marks, o how a node ended, e a block's state.
pub mod Pass
pub mod Values
