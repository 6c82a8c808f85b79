pub mod Laws
pub mod Types
pub mod Images
