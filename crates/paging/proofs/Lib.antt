pub mod Laws
pub mod Outcomes
pub mod Stores
pub mod Levels
