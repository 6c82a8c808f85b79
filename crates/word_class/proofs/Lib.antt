-- Laws behind the functions' proofs.
pub mod Codes
pub mod Classes
pub mod Entries
