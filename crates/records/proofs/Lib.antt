-- What the proofs of several functions use, and what a writer of the words uses.
pub mod Regions
pub mod Congruence
pub mod Words
pub mod Lists
pub mod Searches
pub mod Options
pub mod Packing
pub mod Stores
pub mod Eleven
