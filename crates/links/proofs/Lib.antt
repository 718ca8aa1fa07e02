-- What the proofs of several functions use, and the laws of lines that a caller uses.
pub mod Below
pub mod ByNode
pub mod Rows
pub mod Questions
pub mod Lines
pub mod Modules
