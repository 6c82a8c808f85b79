-- What device code answers to.
pub mod Events
