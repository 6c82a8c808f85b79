-- Laws about the floating forms, and the theorems.
pub mod Fields
pub mod Answers
pub mod Values
pub mod Theorem
