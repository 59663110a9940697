-- That the laws of algorithms hold, and worked rows.
mod Sample
mod RowsRun
mod RowsStep
mod RowsAnswers
mod RowsMacros
mod RowsPairs
mod Choices
pub mod GraftRuns
pub mod Uncaptured
pub mod ExpandRuns
pub mod BeginLaws
pub mod BodyLabels
pub mod TroubleLaws
mod RowsPrinted
mod RowsC
mod RowsLabels
mod RowsSummaries
mod RowsUses
pub mod RebindNames
pub mod RebindLaws
pub mod RebindsByMacro
mod RowsRebind
mod RowsVariables
mod RowsDeclared
mod RowsNames
mod RowsP
mod RowsBoth
pub mod FreeNames
pub mod RoutineNames
pub mod OneStand
pub mod FreeWords
pub mod ClearLabels
pub mod LabelledClear
pub mod SetLaws
pub mod LinesPut
pub mod LinesGood
pub mod TargetLaws
pub mod SummaryLaws
pub mod EffectLaws
pub mod EffectLabels
pub mod FirstLaws
pub mod UseLaws
pub mod UsesByMacro
pub mod SelfByMacro
pub mod SpotGrafts
pub mod SpotCalls
pub mod SpotMacros
pub mod SpotsSeen
pub mod StaleByMacro
pub mod BoundWrittenOut
pub mod UnboundDefinitions
pub mod RefusedAlike
pub mod RowsOffences
pub mod RowsReads
pub mod RowsStale
pub mod RowsSelf
mod RowsOnce
pub mod SameVariables
pub mod StepVariables
pub mod SameSteps
pub mod SameStarts
pub mod RowsCounts
pub mod CountLimits
pub mod BoundTokens
pub mod TokenWeights
pub mod NamesWeighed
pub mod LabelsWeighed
pub mod PlainMacros
pub mod RefusedOnce
pub mod OpensLaws
pub mod ReplyLaws
pub mod ReplyConverse
pub mod ExpressionTokens
pub mod PartTokens
pub mod AfterSigns
pub mod AfterSignsAll
pub mod AfterColons
pub mod AfterColonsAll
pub mod RowsRefused
pub mod CountsAhead
pub mod FieldWords
pub mod HeadWalks
pub mod OpenWalks
pub mod OpenWalksParts
pub mod OpenWalksAll
pub mod DeepLaws
pub mod RowsDeep
pub mod InMemoryGrown
pub mod InMemoryEach
mod RowsInMemory
pub mod StatementHeights
pub mod NothingCaptured
pub mod GraftsRead
pub mod CallsFine
pub mod NamesSeen
pub mod ProcessesInOrder
