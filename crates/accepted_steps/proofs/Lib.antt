-- That steps of accepted algorithms go by their written names.
pub mod Weaker
pub mod AnyLimits
pub mod CleanSteps
pub mod FirstNames
pub mod ParameterStarts
pub mod FirstValues
pub mod StepsFlow
pub mod Members
pub mod Lists
pub mod FlowParts
pub mod ScopesOfStates
pub mod Parts
pub mod Starts
pub mod AllNames
pub mod EarlyReads
pub mod StartedStates
