-- Letters: p a plan, tab a table of classes, a the answers, m c the lent marks and classes.
pub mod PassRecord
