-- Letters: t a text, b a text behind its table, or a buffer, k the bytes of a line, bs bytes, hs ps ss table, plan and step lines, h a table if
-- there is one, w a place in a buffer.
pub mod Hex
pub mod Text
pub mod Calls
