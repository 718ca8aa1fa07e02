-- Laws of decimals, of texts written one behind the other and of the texts of types; and what the promise of writing a text says. Assumes nothing.
pub mod Decimals
pub mod Writing
mod Texts
pub mod Laws
