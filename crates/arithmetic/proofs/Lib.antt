-- Laws that the functions' proofs share.
pub mod Divisions
pub mod Fields
pub mod Places
