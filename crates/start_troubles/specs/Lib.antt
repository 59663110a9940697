-- Words in which the contracts of this crate are said.
pub mod Asked
pub mod Owned
