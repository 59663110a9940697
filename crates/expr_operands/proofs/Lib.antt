pub mod ReadShort
pub mod ReadElement
mod RowsShort
