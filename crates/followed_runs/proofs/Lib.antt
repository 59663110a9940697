-- Lemmas of this crate.
pub mod OwnLaws
pub mod ActorLaws
pub mod StopLaws
pub mod StartLaws
pub mod FollowLaws
pub mod CopyLaws
pub mod TryLaws
pub mod SearchLaws
