-- How results are written as numbers, and a lookup in the module of a number. Definitions only.
pub mod Numbers
