pub mod Writing
pub mod Ahead
