pub mod FormOf
pub mod Done
pub mod Visits
