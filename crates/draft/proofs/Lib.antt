-- Lemmas for the contracts of this crate.
pub mod Grown
pub mod Behind
pub mod NameLaws
mod LabelLaws
