-- What only laws speak of.
pub mod InOrder
pub mod Groups
pub mod FreeNames
pub mod Places
pub mod Grafting
pub mod UnderLimits
pub mod WrittenStrings
pub mod CanonicalNames
pub mod Untitled
