pub mod ReadStatements
pub mod ReadAlgorithm
pub mod MissingStatements
pub mod MissingAlgorithm
pub mod Resume
pub mod Around
