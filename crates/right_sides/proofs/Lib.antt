-- Lemmas for the contracts of this crate.
pub mod KeyLaws
pub mod GroupLaws
pub mod SideLaws
pub mod AfterLaws
pub mod StatementLaws
pub mod ItemLaws
