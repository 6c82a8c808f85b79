pub mod Accesses
pub mod Blocks
