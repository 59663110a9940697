-- What the contracts of this crate are said in.
pub mod Drafts
pub mod RoutineNames
