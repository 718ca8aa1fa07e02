-- What the proofs of several functions use.
pub mod Running
pub mod Below
pub mod Shaped
pub mod Finding
pub mod Short
pub mod Arms
pub mod Leading
pub mod Chains
pub mod Saying
