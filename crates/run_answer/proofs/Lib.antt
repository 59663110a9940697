-- Proofs of the laws of runs of whole files.
pub mod Choices
pub mod Constants
pub mod Ends
pub mod FirstStates
pub mod RegionTokens
pub mod ReadRegions
pub mod ReadOutside
pub mod KeptRuns
mod Rows
mod RowsRun
pub mod Outcomes
pub mod Scopes
pub mod Statements
pub mod Calls
pub mod Steps
pub mod Starts
pub mod Followed
pub mod ScriptsFollowed
