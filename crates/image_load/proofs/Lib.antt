pub mod Placed
pub mod Called
