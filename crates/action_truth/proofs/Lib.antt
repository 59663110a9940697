-- Lemmas of this crate.
pub mod ListLaws
pub mod TitleLaws
pub mod ScopeLaws
pub mod ActLaws
pub mod EndingLaws
pub mod Disjunctions
pub mod UnchangedLaws
pub mod ItemLaws
pub mod CaseLaws
pub mod ModuleLaws
