-- Lemmas of this crate.
pub mod SameRuns
pub mod OnceRuns
pub mod StandLaws
pub mod SpotsPut
pub mod OwnSpotLaws
pub mod Rows
pub mod SearchLaws
pub mod RestLaws
pub mod WrittenLaws
pub mod TroubleRows
