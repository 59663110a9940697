-- Words in which the contracts of this crate are said.
pub mod Parties
pub mod Stopping
pub mod Tries
