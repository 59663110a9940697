-- What the contracts of this crate are said in.
pub mod Added
pub mod Starts
pub mod TakersIn
pub mod Unset
pub mod LabelWays
pub mod MainWays
pub mod PlaceStays
