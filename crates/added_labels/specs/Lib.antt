-- Words in which the contracts of this crate are said.
pub mod Decided
pub mod Bodies
pub mod Sight
pub mod Chosen
pub mod WithLabels
