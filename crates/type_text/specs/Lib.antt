-- The texts of the kinds of types, and the promises of writing. Definitions only.
pub mod Text
