-- The types of a question, the five resolution functions, the answer lines, and what is hidden of a function's body.
pub mod TypeData
pub mod Types
pub mod Compatible
pub mod Asked
pub mod Programs
pub mod Views
pub mod TypeResolution
pub mod Run
pub mod Answer
pub mod Resolve
pub mod TableOk
pub mod Inside
pub mod Secrecy
pub mod Computes
pub mod Examples
pub mod OperatorRows
