-- The store of pairs, and the rows of the operators. Definitions only.
pub mod Pairs
pub mod Operators
