-- The host's calls.
pub mod Calls
