-- Proofs of the laws of traces of whole files.
pub mod Titles
pub mod Explanations
pub mod LimitedTruth
pub mod Variables
pub mod States
pub mod Whole
pub mod ReadModules
pub mod ReadTruth
pub mod OtherModules
pub mod KeptTraces
mod Rows
