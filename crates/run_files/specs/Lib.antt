-- What code finds at a place of a text, and what is read of items and lines so far.
pub mod Fronts
pub mod SoFar
pub mod Lines
pub mod Turns
pub mod TurnCode
pub mod Headings
pub mod InMemory
