-- What is made of functions.
pub mod Functions
pub mod SubSequences
