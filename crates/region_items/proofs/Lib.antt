pub mod OpeningRead
pub mod Gathered
pub mod NamesGathered
pub mod ItemsStand
pub mod ItemsGathered
pub mod ItemFirst
mod Rows
