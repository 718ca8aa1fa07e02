-- Laws of the list of open demands. Assumes nothing.
mod Places
pub mod Entering
pub mod Laws
