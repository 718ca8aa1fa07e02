-- The laws that the functions' proofs and those of callers cite. Assumes nothing.
pub mod Bools
pub mod Parts
pub mod Pairs
pub mod Rows
pub mod Growth
pub mod Laws
pub mod Same
pub mod Search
pub mod Started
pub mod Grow
pub mod Interned
pub mod Canonicals
pub mod ByKind
pub mod Reading
