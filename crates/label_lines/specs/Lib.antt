-- Lines of labels in memory.
pub mod Ends
pub mod Found
pub mod Mains
