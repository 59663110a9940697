-- Words in which the contracts of this crate are said.
pub mod Answers
pub mod Answered
pub mod Unread
pub mod Put
