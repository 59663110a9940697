pub mod PoolGrown
pub mod DoneLemmas
pub mod VisitLemmas
mod RowsPool
mod SameLists
