-- Lemmas for the contracts of this crate, and of others that walk over statements.
pub mod Walks
pub mod LabelLaws
