-- Laws of lines that are written.
pub mod Lines
