-- Letters: p a plan, t a table, lay a layout, rows their number, st a state, q a row, v a node, b a byte.
pub mod Layout
