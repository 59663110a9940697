pub mod Stands
pub mod Brackets
pub mod NoUnit
