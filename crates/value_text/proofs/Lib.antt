-- The lemmas of this crate.
pub mod Written
pub mod PunctLemmas
pub mod Tokens
pub mod Bodies
pub mod ReadLemmas
pub mod EntryLemmas
pub mod Ends
