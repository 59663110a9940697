-- Words in which the contracts of this crate are said.
pub mod AskedOf
pub mod Pairs
