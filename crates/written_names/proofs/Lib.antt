-- That names are given as it is defined.
pub mod FirstFree
pub mod Given
pub mod LookedUp
pub mod Steps
pub mod UnitWalks
pub mod UnitLists
mod Rows
