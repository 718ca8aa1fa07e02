-- The format of an index file: from bytes to an index, or a refusal with its line.
pub mod Words
pub mod Fields
pub mod Tails
pub mod Shapes
pub mod Lines
pub mod FirstPass
pub mod LinkCheck
pub mod Load
pub mod Computes
pub mod Cases
