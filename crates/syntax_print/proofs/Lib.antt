pub mod Blanks
pub mod Commas
pub mod Lines
pub mod Branches
pub mod Units
