-- What the contracts of this crate are said in.
pub mod After
pub mod Stays
pub mod Keys
pub mod Parts
pub mod Groups
pub mod Settings
