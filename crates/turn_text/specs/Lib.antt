-- `turn` of document 01: words of bytes, the run, and the text that is printed.
pub mod Bytes
pub mod Turn
pub mod Text
