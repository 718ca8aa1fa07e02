-- The promises of this crate that have more than one part.
pub mod Promises
