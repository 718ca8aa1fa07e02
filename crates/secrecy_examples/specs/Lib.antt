-- What demand 3 says of pairs of files: its premises are met, and what each file prints. Assumes nothing.
pub mod Pairs
