-- Words in which the contracts of this crate are said.
pub mod Halts
pub mod Judging
pub mod Shows
