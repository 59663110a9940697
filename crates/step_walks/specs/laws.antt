-- What laws on steps and starts ask.
pub mod FirstValues
