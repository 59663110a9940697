-- Lemmas of this crate.
pub mod PartedLaws
pub mod FoundLaws
pub mod MeetLaws
pub mod JumpLaws
