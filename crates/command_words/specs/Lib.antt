-- The words of the commands, and what they mean.
pub mod Table
pub mod Commands
pub mod Meant
pub mod TableParts
