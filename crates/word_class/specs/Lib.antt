-- The classes of instruction words.
pub mod Classes
