-- Letters: p a plan's bytes, e f events, c d codes, v a node, b a byte, lay a layout.
pub mod Event
pub mod Site
pub mod Bit
pub mod Valid
