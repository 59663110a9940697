-- The words in which the laws are stated.
pub mod States
pub mod Scopes
pub mod Settling
pub mod Jumps
pub mod Ready
pub mod LabelSteps
pub mod Grafts
pub mod Sample
pub mod WrittenScope
pub mod StepsOfLabels
pub mod InParts
