-- Runs by some ways of taking a step and of starting, by the written names for one, and the label that a value of pc names, among those of routines.
pub mod Ways
pub mod WrittenRuns
pub mod Stands
pub mod OwnSpots
pub mod Searches
pub mod WrittenTroubles
