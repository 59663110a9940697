pub mod ErrorLine
pub mod Numbers
pub mod TextsTold
pub mod ThreeTold
pub mod Runs
pub mod Traces
pub mod Told
pub mod Tasks
pub mod FromPut
pub mod MadeSmall
pub mod RowsAnswers
mod RowsAsked
