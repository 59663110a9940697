pub mod Grouped
pub mod Functions
pub mod InBraces
