pub mod Region
pub mod laws
pub mod PromiseWhole
pub mod Worked
pub mod WorkedFiles
