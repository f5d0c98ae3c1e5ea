-- Letters: t a text, tab a table of classes, p a plan, bs bytes, ts steps, r a record, v a node, n a number, ls lines, b a buffer.
pub mod Script
