pub mod OneRegion
pub mod OneItem
pub mod OneWay
pub mod OneUnit
pub mod OneOutside
pub mod OneModule
pub mod EdgeAlike
pub mod OutsideUnits
pub mod ReadOutside
pub mod SomeOutside
pub mod OutsideAlike
pub mod ModuleKept
pub mod AlgorithmRow
pub mod OptionsKept
pub mod BeginningsKept
pub mod AlgorithmKept
pub mod AlgorithmMoved
pub mod FineKept
pub mod PairedMarks
pub mod WalkAlike
pub mod SwappedBack
pub mod WalkBefore
pub mod SwappedComment
pub mod FirstSwapped
pub mod OnePlace
pub mod Tells
mod RowsLayout
mod RowsItems
mod RowsTruth
mod RowsProcesses
mod RowsOutside
mod RowsUnits
mod RowsReading
mod RowsFiles
mod RowsEnds
mod RowsWritten
pub mod WalkLines
pub mod WalkWhole
pub mod WalkResumed
pub mod WalkWritten
pub mod WalkMoved
pub mod WalkParted
pub mod WalkAround
pub mod WalkAgain
pub mod WalkPieces
pub mod InsidePieces
pub mod WalkPlace
pub mod WalkKept
pub mod WalkSame
pub mod AlgorithmTokens
pub mod AlgorithmFound
pub mod AlgorithmIsCut
pub mod AlgorithmSame
pub mod Chunks
pub mod ExprChunks
pub mod LineChunks
pub mod ItemChunks
pub mod CallChunks
pub mod UnitChunks
pub mod UnitForms
pub mod UnitsOfActions
pub mod ProcessSets
pub mod UnitLists
pub mod LayoutBare
pub mod WrittenRegion
pub mod PutThere
pub mod First
pub mod Braces
pub mod AlgorithmEnds
pub mod OnlyBeginnings
pub mod PlacesAlike
pub mod OptionsSwapped
pub mod PartsSound
pub mod FineFiles
pub mod LineLengths
pub mod SplitWhole
pub mod OutcomesAlike
pub mod ItemPlaces
pub mod ModulePlaces
pub mod ActionFound
