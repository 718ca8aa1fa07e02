-- What the proofs of several functions use.
pub mod Holding
pub mod Listing
pub mod Tailing
pub mod Leaving
pub mod Decoding
pub mod TypeLines
pub mod QuestionLines
pub mod ScopeLines
pub mod DefinitionLines
pub mod ExpressionLines
pub mod Advancing
pub mod Keeping
pub mod Stepping
pub mod Finishing
pub mod Faults
pub mod Loading
