-- No letters of its own.
pub mod Version
