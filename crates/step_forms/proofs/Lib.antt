-- Lemmas for the laws of this crate.
pub mod LeftLaws
pub mod WrittenLaws
pub mod SettledItems
pub mod Words
pub mod StepsLaws
pub mod MacroCalls
pub mod OpenedBodies
pub mod OpenedRoutines
pub mod OpenedActions
pub mod LabelsApart
pub mod OpenedSteps
pub mod StepsBegun
pub mod OpenedFormulas
mod Rows
