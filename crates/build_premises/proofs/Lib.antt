-- Lemmas for the laws of this crate.
pub mod PartsLaws
pub mod StepParts
pub mod SettledParts
pub mod JumpsSettled
pub mod WrittenBodies
pub mod BuiltSteps
pub mod ListsApart
pub mod VariablesApart
pub mod PlainParts
pub mod StepStrings
pub mod StepsInParts
pub mod OpenedSteps
pub mod OpenedParts
pub mod FewVariables
pub mod CheckedVariables
