-- Lemmas of this crate.
pub mod BareRegions
pub mod ModulesAlike
pub mod TracesAlike
pub mod JustLaws
pub mod TranslatedLaws
pub mod BesideLaws
pub mod ExplainLaws
pub mod WholeLaws
