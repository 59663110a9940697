-- Words in which the contracts of this crate are said.
pub mod Replies
pub mod Stages
pub mod StandsAt
pub mod Walks
pub mod Origins
pub mod Begun
pub mod Identified
pub mod Ready
