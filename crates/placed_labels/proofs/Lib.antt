-- Lemmas of this crate.
pub mod NameLaws
pub mod PlaceLaws
