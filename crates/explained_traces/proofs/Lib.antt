-- Lemmas of this crate.
pub mod VerdictLaws
pub mod BeforeLaws
pub mod PairLaws
pub mod TraceLaws
