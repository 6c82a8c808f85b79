pub mod Placing
pub mod Loading
