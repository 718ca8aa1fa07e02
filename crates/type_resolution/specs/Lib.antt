-- What the functions of the cycle ask and promise, and what a line says. Definitions only.
pub mod State
pub mod Shapes
pub mod Leaves
pub mod Asking
