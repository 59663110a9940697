pub mod StandsSeen
pub mod Walking
pub mod Splitting
pub mod BeginningsSeen
pub mod AlgorithmSeen
pub mod SplitSeen
