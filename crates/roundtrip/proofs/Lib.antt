pub mod Contents
pub mod Theorem
