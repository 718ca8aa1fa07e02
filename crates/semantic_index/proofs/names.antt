-- What the proofs of several functions of `names` use.
pub mod Equal
