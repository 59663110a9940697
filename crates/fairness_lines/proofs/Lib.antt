-- Lemmas for the contracts of this crate.
pub mod NamesFound
pub mod ReachedLaws
pub mod NumberLaws
pub mod WorkLaws
pub mod Reaching
pub mod ProceduresFound
pub mod TableRows
pub mod TableLaws
pub mod AskedLaws
pub mod LineLaws
pub mod ObligationLaws
