-- Words that only laws speak of.
pub mod Apart
pub mod Lines
pub mod MacroBindings
pub mod MacroSummaries
pub mod MacroUses
pub mod MacroSelves
pub mod MacroSpots
pub mod BoundDefinitions
pub mod OffencesOnce
pub mod Choosing
pub mod Expansion
pub mod ReadNames
pub mod Steps
pub mod DeepForms
