-- What `resolve` prints at a time. Definitions only.
pub mod Parts
