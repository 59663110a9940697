pub mod ReadArms
pub mod ReadLocals
pub mod ReadBullets
pub mod ReadFields
pub mod ReadPaths
pub mod ReadSettings
pub mod ListsRead
mod RowsLists
