-- The words in which the laws are stated.
pub mod Steps
pub mod ActionNames
pub mod WritableAlgorithm
pub mod AssignedOnce
pub mod TypedAlgorithm
pub mod AcceptedAlgorithm
pub mod JumpsEnd
pub mod StepsOnce
pub mod AcceptedLaws
pub mod PlacedStatements
pub mod StepParts
pub mod FreshReads
pub mod StepNames
pub mod NothingPrimed
pub mod KeptUnprimed
pub mod ActionLaws
