-- What is written of an algorithm, step by step, as code makes it in one walk.
pub mod LeftOver
pub mod Steps
pub mod Opened
pub mod OldNames
pub mod PartsAssigned
