-- Lemmas of this crate.
pub mod AskedLaws
pub mod WrittenStarts
pub mod TraceLaws
pub mod Rows
