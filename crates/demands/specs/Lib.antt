-- What the places of the list hold, and what the functions over it promise. Definitions only.
pub mod Meaning
pub mod Promises
