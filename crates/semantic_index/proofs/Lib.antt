-- What the proofs of several functions use.
pub mod Scopes
pub mod Searches
pub mod ByKind
pub mod Definitions
pub mod AtPosition
