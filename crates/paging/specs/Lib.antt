pub mod Within
pub mod Outcome
pub mod Levels
