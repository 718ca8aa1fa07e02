-- What the words hold while an index file is loaded, and what loading promises.
pub mod Numbers
pub mod Values
pub mod Items
pub mod State
pub mod Lines
pub mod Steps
pub mod Pass
pub mod Load
