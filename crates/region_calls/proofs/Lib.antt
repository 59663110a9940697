-- That calls, ways and conjuncts of Spec are read as the readers of a translation read them.
pub mod Kept
pub mod Openings
pub mod CallSteps
pub mod FairSteps
pub mod ReadBullets
pub mod AllTold
pub mod OrderLaws
pub mod SpecUnits
