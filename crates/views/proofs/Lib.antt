-- What the proofs of several functions use. Assumes nothing.
pub mod Asking
pub mod Nodes
pub mod Chains
pub mod Fields
