-- The bits of several words together.
pub mod Bits
