-- What a line that is written holds, byte for byte. Definitions only.
pub mod Lines
