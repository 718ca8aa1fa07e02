-- What the links of this crate mean. Definitions only.
pub mod Meaning
