pub mod PlainUnits
pub mod TreeDepth
pub mod SmallNumbers
