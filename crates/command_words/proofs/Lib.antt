-- Worked rows of words.
mod Rows
pub mod Found
mod Meanings
pub mod TableLemmas
