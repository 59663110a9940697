mod Rows
mod RowsBroken
mod RowsLimit
mod RowsMissing
pub mod SoundStatements
pub mod SoundAlgorithm
pub mod WholeStatements
pub mod WholeAlgorithm
pub mod FairStatements
pub mod FairAlgorithm
pub mod Opened
pub mod MendStatements
pub mod MendAlgorithm
pub mod BesideStatements
pub mod BesideAlgorithm
pub mod WithinStatements
pub mod WithinAlgorithm
pub mod Closing
pub mod Stops
pub mod StopsWithin
pub mod ClosingAll
pub mod ResumedText
pub mod Ends
pub mod Bodies
