-- Lemmas for the laws of this crate.
pub mod OpenedMarks
pub mod OpenedFairness
pub mod OpenedRegions
