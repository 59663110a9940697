-- The lemmas of this crate.
pub mod Scanned
pub mod ItemLaws
pub mod ConfigLaws
pub mod LineLaws
pub mod TurnLaws
pub mod TraceLaws
pub mod StopLaws
pub mod StateLaws
