-- The entry points' answers as calls of the definitions, and what is promised of two machines.
pub mod Calls
pub mod Pair
pub mod Reload
