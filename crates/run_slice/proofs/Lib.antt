pub mod Laws
pub mod Advances
