-- Worked rows of made modules, and how long they are.
mod Rows
pub mod Short
