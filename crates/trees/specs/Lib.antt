-- Letters: p q plans, v w x nodes, u a parent, k a kind byte, n a new number, t trees side by side, b those below the first of them, cs nodes.
pub mod Tree
pub mod Numbering
pub mod Renumber
pub mod Claim
