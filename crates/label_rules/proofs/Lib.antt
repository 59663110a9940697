-- Lemmas of this crate.
pub mod FirstNone
pub mod AddedLaws
pub mod AllLaws
pub mod MeetLaws
pub mod JumpLaws
