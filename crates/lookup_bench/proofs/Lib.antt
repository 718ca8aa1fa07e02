-- How a lookup in the module of a number goes by where the link to that module leads. The check proves each lookup without it.
pub mod ByModule
