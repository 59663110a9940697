-- Lemmas of this crate.
pub mod ToldLaws
pub mod SimpleLaws
pub mod StepLaws
pub mod ShapeLaws
pub mod ListLaws
