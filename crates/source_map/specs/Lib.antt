-- The lines that `map` prints for labels.
pub mod Lines
