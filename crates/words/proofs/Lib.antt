-- Laws of fields and words.
pub mod Bytes
pub mod Tables
pub mod Keywords
