-- What one call of `answer_from` gives to print.
pub mod Parts
