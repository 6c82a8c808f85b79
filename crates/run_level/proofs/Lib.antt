pub mod Laws
pub mod Bursts
