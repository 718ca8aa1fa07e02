-- The model of an index: its records, the lookups in it, its links, and what loading makes sure of. Definitions only.
pub mod Common
pub mod Records
pub mod Lookups
pub mod AtPosition
pub mod Links
pub mod Limits
pub mod Refusals
pub mod WellFormed
pub mod Computes
pub mod LookupCases
