-- What a question asks, and what the resolution functions read from the record words without asking. Definitions only.
pub mod Asking
pub mod Reads
pub mod Meaning
pub mod Promises
