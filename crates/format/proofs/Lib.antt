-- What loading makes sure of.
pub mod Reading
pub mod Passing
pub mod Enough
pub mod Linked
pub mod Growing
pub mod Loaded
pub mod Refused
