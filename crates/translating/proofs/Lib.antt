-- Lemmas of this crate.
pub mod WholeLaws
