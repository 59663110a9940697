pub mod UnitsAt
pub mod Parts
