-- Lemmas for the contracts of this crate, and of those that write more lines.
pub mod Blanks
pub mod Regrouped
