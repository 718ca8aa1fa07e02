-- Results as numbers are read as what they stand for.
pub mod Packing
