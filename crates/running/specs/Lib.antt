-- Words in which the contracts of this crate are said.
pub mod InMemory
pub mod Ready
pub mod Beside
pub mod GroundsOf
pub mod ProgramsOf
pub mod ReadBefore
pub mod Names
pub mod Answers
pub mod Answered
pub mod Reading
pub mod Put
pub mod PlacesOf
pub mod Prepared
