-- That the first offences are found.
pub mod LeftOutWords
pub mod TokensFound
pub mod Counts
pub mod LabelWalks
pub mod Tables
pub mod CallWalks
pub mod BoundLemmas
pub mod Greater
pub mod LiteralLaws
pub mod NestLaws
pub mod DeepFound
pub mod AllCounts
pub mod WithinLimits
mod Rows
