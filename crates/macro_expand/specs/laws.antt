-- Words that only laws speak of.
pub mod Sums
pub mod MacroSizes
