-- The translation of an algorithm, step by step.
pub mod RegionBySteps
