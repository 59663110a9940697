-- Words in which the contracts of this crate are said.
pub mod InMemory
pub mod Translated
pub mod Beside
pub mod Explained
