-- Lemmas for the contracts of this crate, and of those that write out statements.
pub mod Lists
pub mod TreeLaws
