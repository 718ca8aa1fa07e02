-- What a field that was read stands for.
pub mod Held
