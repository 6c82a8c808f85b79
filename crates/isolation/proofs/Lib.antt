pub mod Accesses
pub mod Memories
pub mod Stages
pub mod Runs
pub mod Inputs
pub mod Theorem
pub mod Pair
