-- Words in which the contracts of this crate are said.
pub mod Pauses
pub mod Picks
