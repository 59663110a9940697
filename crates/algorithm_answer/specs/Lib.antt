pub mod Joined
pub mod TokensRefused
pub mod Answered
