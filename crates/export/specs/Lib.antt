-- How results are written as numbers. Definitions only.
pub mod Numbers
