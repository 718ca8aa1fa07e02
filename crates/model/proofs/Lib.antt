-- Laws of the lookups.
pub mod Tests
pub mod Places
pub mod Search
pub mod ReturnLoops
pub mod ScopeChain
pub mod Collected
pub mod AtPosition
