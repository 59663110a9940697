pub mod TreeLemmas
pub mod PoolNumbers
pub mod Operands
mod Rows
mod RowsView
mod RowsSpelling
mod RowsReader
mod RowsWritable
pub mod ColumnsGood
pub mod Placed
pub mod ColumnsPut
pub mod Columns
pub mod SpelledTokens
pub mod SpelledTrees
pub mod WrittenPhrase
pub mod WrittenTree
pub mod Steps
pub mod ReadSoon
pub mod SoundTokens
pub mod SoundPhrases
pub mod SoundBraces
pub mod SoundForms
pub mod SoundLists
pub mod ReadStops
pub mod ReadPhrases
pub mod ReadForms
pub mod ReadLists
pub mod ReadSquares
pub mod ReadAll
pub mod ReadElements
pub mod ReadMembers
pub mod ReadFunctions
pub mod StopLaws
pub mod RowsStops
pub mod CountsLaws
pub mod BracketCounts
pub mod FitTokens
pub mod FitTrees
pub mod PlacedGood
pub mod PlacedTree
pub mod WrittenGood
pub mod InText
pub mod WrittenBare
pub mod WritableTrees
pub mod TextTokens
pub mod SpellAppend
pub mod Following
pub mod Alike
pub mod AlikeSteps
pub mod Farthest
pub mod SpellAhead
pub mod MendedCounts
pub mod Mended
pub mod MendedBraces
pub mod MendedForms
pub mod MendedLists
pub mod Completed
mod RowsCompleted
pub mod StopsThere
pub mod AlikeEnds
pub mod AlikeEndsSteps
mod RowsRefused
pub mod Rooms
mod RowsLimit
pub mod Opened
pub mod Enough
pub mod EnoughSteps
pub mod Whole
pub mod DeepCounts
pub mod Limited
pub mod LimitedRooms
pub mod LimitedBraces
pub mod LimitedMembers
pub mod LimitedForms
pub mod LimitedSets
pub mod LimitedAll
pub mod LimitedStops
pub mod ReadBounded
pub mod CountsMoved
pub mod ReadWithin
mod RowsDeepest
