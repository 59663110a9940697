-- What code that works on values promises.
pub mod Gives
pub mod Parts
pub mod Merges
pub mod Counts
