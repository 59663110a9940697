-- Lemmas of this crate.
pub mod SpotLaws
pub mod FirstSpots
pub mod SpotNumbers
