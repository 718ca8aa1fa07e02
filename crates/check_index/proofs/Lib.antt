-- What the proofs of several functions use.
pub mod Puts
pub mod Decimals
pub mod Totals
