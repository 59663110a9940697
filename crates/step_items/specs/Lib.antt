-- What the contracts of this crate are said in.
pub mod Branching
pub mod Desks
pub mod Partners
pub mod Writing
