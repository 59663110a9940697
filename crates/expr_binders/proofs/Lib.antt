pub mod ReadSets
pub mod ReadBinds
pub mod BindsRead
pub mod ReadQuantifiers
mod RowsBinds
mod RowsBraces
