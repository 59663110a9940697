-- Proofs of the command `trace`.
mod Unread
pub mod Answering
pub mod Putting
