-- Lemmas of this crate.
pub mod AskedLaws
pub mod MemberLaws
pub mod SightLaws
pub mod GivenLaws
pub mod LocalLaws
pub mod RoutineLaws
pub mod TroubleLaws
