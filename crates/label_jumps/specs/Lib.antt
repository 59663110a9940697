-- Words in which the contracts of this crate are said.
pub mod Parted
pub mod Meeting
pub mod Standing
