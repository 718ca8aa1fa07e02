-- Laws of a question that is answered, and of the lines of many questions.
pub mod Asking
pub mod Filling
pub mod Entries
pub mod AskedLines
pub mod Pieces
pub mod Whole
pub mod Sizes
pub mod Hiding
