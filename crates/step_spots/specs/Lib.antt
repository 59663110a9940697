-- Words in which the contracts of this crate are said.
pub mod Targets
pub mod Spots
pub mod InMemory
