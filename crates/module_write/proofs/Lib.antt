mod RowsInMemory
pub mod ItemEquations
pub mod Below
pub mod Heights
pub mod LayoutParts
pub mod SpotWithin
pub mod InMemoryGrown
