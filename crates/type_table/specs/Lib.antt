-- The type buffer: its layout, its decoder, what is read from it, and the promises over it. Definitions only.
pub mod Layout
pub mod Meaning
pub mod Reads
pub mod Promises
