-- That reading a translation is exact.
pub mod NamesRead
pub mod BulletsRead
pub mod ItemsRead
pub mod CallsRead
pub mod UnitsRead
pub mod RegionsRead
pub mod ModulesRead
pub mod EnoughSteps
pub mod BoundedSteps
pub mod BoundedItems
pub mod BoundedCalls
pub mod BoundedUnits
pub mod BoundedModules
pub mod BoundLaws
pub mod BoundIsRead
pub mod AnswersRead
pub mod BoundMet
mod Rows
