-- What a call on a lent record answers and leaves.
pub mod Lent
