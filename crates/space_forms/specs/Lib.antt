-- Rows of members, and spaces of functions.
pub mod SubLists
pub mod Spaces
