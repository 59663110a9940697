-- What is written for a function, and what is in sight of a text that is read.
pub mod Entries
pub mod Puncts
pub mod InSight
pub mod Items
pub mod EntryOrder
pub mod Answers
