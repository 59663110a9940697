-- Lemmas of this crate.
pub mod ReadyLaws
pub mod FollowLaws
pub mod BesideLaws
pub mod WholeLaws
pub mod OwnLaws
pub mod KeptLaws
pub mod ConstantLaws
pub mod GroundsLaws
pub mod ProgramLaws
pub mod ReadLaws
pub mod StandingLaws
pub mod Told
pub mod FilesRead
pub mod Answering
pub mod Putting
mod PlacesLaws
mod NumberedLaws
mod RoutineLaws
pub mod LabelLaws
mod MadeOnto
mod LeftSides
mod Members
mod EachKind
