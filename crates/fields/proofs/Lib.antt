-- Laws of fields.
pub mod Numbers
pub mod Names
pub mod Slots
