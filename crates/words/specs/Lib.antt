-- What a table of words holds, and which word a field is.
pub mod Packed
pub mod Meanings
pub mod Ends
