mod RowsStands
pub mod EndLine
pub mod BarFronts
pub mod SegmentFronts
pub mod QuotedSegments
pub mod WalkSteps
mod RowsSplit
pub mod BeginningSteps
pub mod BeginningPlaces
pub mod AlgorithmSteps
pub mod UnitStarts
pub mod SplitFaults
pub mod SplitLeast
pub mod SplitFine
pub mod StandSteps
pub mod Comments
pub mod Gaps
pub mod SplitParts
pub mod Titles
pub mod SplitTitle
pub mod SplitTokens
pub mod SplitMade
