-- That a file spells one thing or is refused at one place, that a followed script is a run, and worked rows.
pub mod Spelled
pub mod Offended
pub mod ItemsOnce
pub mod ItemsTold
pub mod FilesOnce
pub mod FilesTold
pub mod FollowedRuns
mod RowsItems
mod RowsScript
mod RowsTrace
mod RowsShown
