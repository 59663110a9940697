-- That the units of a translation are read as the readers of a translation read them.
pub mod UnitsStand
pub mod BracketSteps
pub mod WholeUnits
