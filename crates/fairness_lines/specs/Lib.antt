-- What the contracts of this crate are said in.
pub mod LeastSets
pub mod Numbers
pub mod WorkLists
pub mod Tables
pub mod Asked
pub mod DemandsAt
pub mod LinesOf
