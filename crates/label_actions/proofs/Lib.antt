-- Lemmas for the contracts of this crate.
pub mod Grown
pub mod StepsAdded
pub mod FirstSteps
pub mod RoutinesListed
pub mod UnitLaws
pub mod ProgramLaws
