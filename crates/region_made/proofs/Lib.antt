-- That a translation is put together from its units.
pub mod UnitsTaken
pub mod Rows
pub mod PartsMade
