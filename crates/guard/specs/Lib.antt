-- Letters: p a plan, e an event, c a code or a child, v a node, cs children, u their parent, k a kind or code byte, ks codes, b a buffer or a
-- neighbour, l a last child, w a place in a buffer, g a guard, s its shape.
pub mod Guard
pub mod Rule
pub mod Bytes
pub mod Put
pub mod Family
pub mod Shape
