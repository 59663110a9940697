pub mod Joins
pub mod Covers
pub mod PlacedTokens
pub mod AnswerRules
pub mod LeftOutFirst
