-- The two floating forms of document 002 and their conversions (document 02, card 12).
pub mod Forms
pub mod Conversions
pub mod Statement
