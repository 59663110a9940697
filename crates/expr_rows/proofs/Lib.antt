pub mod ReadLemmas
pub mod ReadSteps
pub mod ReadCode
pub mod ReadRows
pub mod ReadLinks
pub mod ReadPut
pub mod ReadCounts
pub mod ReadGrown
pub mod ReadNames
pub mod ReadPrimaries
pub mod ReadFirst
mod RowsHasRead
mod RowsLists
