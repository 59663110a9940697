-- Lemmas for the contracts of this crate.
pub mod MadeLaws
pub mod PieceLaws
mod CallLaws
mod ArgumentLaws
