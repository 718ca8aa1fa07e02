-- The line that `check_index` writes. Definitions only.
pub mod Line
