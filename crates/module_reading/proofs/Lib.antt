-- That a module is read back from its text.
pub mod SmallTokens
pub mod OutsideKept
pub mod UnitsGrown
pub mod UnitSteps
pub mod Fitness
pub mod ByParts
