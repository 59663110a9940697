-- Lemmas of this crate.
pub mod PlacedLaws
pub mod RootLaws
pub mod SightLaws
pub mod ChooseLaws
pub mod BodyLaws
pub mod TypedLaws
pub mod AddLaws
