-- What is left of the limits of an expansion after parts of an algorithm.
pub mod Spent
pub mod Budget
pub mod FramesIn
pub mod TreesSpent
