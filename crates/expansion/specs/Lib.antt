-- What algorithms are with their macro calls written out, in memory.
pub mod Written
pub mod Expanded
