-- What the public entries answer, and what they promise. Definitions only.
pub mod Numbers
pub mod Meaning
pub mod Steps
pub mod Promises
pub mod Whole
pub mod Sizes
