-- Words in which the contracts of this crate are said.
pub mod MissingLabels
pub mod AssignedTwice
pub mod Walking
pub mod StraightPaths
pub mod Gathered
pub mod PathsIn
pub mod SidesIn
pub mod ParamsIn
pub mod PutIn
pub mod KnownIn
pub mod AroundIn
pub mod GatheredIn
pub mod WalksIn
pub mod WaysIn
pub mod MacrosIn
