-- What operators make of the values of their operands, and how membership is told.
pub mod Operands
pub mod Standards
pub mod Tested
pub mod TestsBy
