mod Rows
mod RowsForms
mod RowsClosing
mod RowsLimit
mod RowsMissing
pub mod SoundStatements
pub mod SoundAlgorithm
pub mod Lengths
pub mod Behind
pub mod Elsewhere
pub mod WholeStatements
pub mod WholeAlgorithm
pub mod FairStatements
pub mod FairAlgorithm
pub mod MendStatements
pub mod MendAlgorithm
pub mod Closing
pub mod Apart
pub mod Stops
pub mod OneSyntax
pub mod BesideStatements
pub mod WithinStatements
pub mod BesideAlgorithm
pub mod WithinAlgorithm
pub mod StopsWithin
pub mod ClosingAll
pub mod ResumedText
pub mod Lasts
